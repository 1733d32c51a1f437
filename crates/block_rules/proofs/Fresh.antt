-- A fresh shelf is sound.
use Rattle.std.proofs.Common.{◌≡◌, ℕ, zero, suc, ◌+◌, ◌*◌, ◌<◌, ◌≤◌, List, length, get_or, sum_by, sym, refl, ap, ◌∙◌, subst, arith}
use Rattle.std.proofs.lemmas.List.FromFn.{length-range_with_len}
use Rattle.std.proofs.lemmas.List.{length-replicate, get_or-replicate}
use Rattle.std.proofs.lemmas.List.Sums.{sum_by-cons}
use Rattle.std.proofs.lemmas.Bool.Decides.{nat_tests}
use Rattle.plan.specs.Plans.{width, need, Small}
use Rattle.plan.specs.declared.check.Plan.{Plan}
use Rattle.plan.specs.declared.check.ShelfType.TheVariants.{Block}
use Rattle.block_rules.specs.declared.parts.Job.TheVariants.{Idle}
use Rattle.block_rules.specs.Blocks.{share, Party, in_hand, unused, nobody, blocks_from, fresh_party, fresh_parties, fresh}
use Rattle.block_rules.specs.Counting.{same, times, stands_with, standings, below}
use Rattle.block_rules.specs.Sound.{JobOk, Sound}
use Rattle.block_rules.proofs.Counts.{times_nil, times_cons}
use Rattle.block_rules.proofs.Steps.{none_not_some}

length_seats : (a m n : ℕ) → length (fresh_parties a m n) ≡ n
length_seats a m zero = refl
length_seats a m (suc n) = ap suc (length_seats (a + m) m n)

step_below : (b a : ℕ) → same b a + below b a ≡ below b (a + 1)
step_below b a = grind (arith, nat_tests)

times_blocks : (b a n : ℕ) → times b (blocks_from a n) + below b a ≡ below b (a + n)
times_blocks b a zero = ap (λ x. x + below b a) (times_nil b) ∙ (omega arith ∙ ap (below b) {x = a} {y = a + 0} (omega arith))
times_blocks b a (suc n) =
    let ih = times_blocks b (a + 1) n in
    let e : below b (a + 1 + n) ≡ below b (a + suc n) = ap (below b) (omega arith) in
    omega (arith, times_cons b a (blocks_from (a + 1) n), step_below b a, ih, e)

sum_seats : (b a m n : ℕ) → sum_by (stands_with b) (fresh_parties a m n) + below b a ≡ below b (a + n * m)
sum_seats b a m zero = let e : below b a ≡ below b (a + 0 * m) = ap (below b) (omega arith) in omega arith
sum_seats b a m (suc n) =
    let ih = sum_seats b (a + m) m n in
    let e : below b (a + m + n * m) ≡ below b (a + suc n * m) = ap (below b) (omega arith) in
    omega (arith, sum_by-cons (stands_with b) (fresh_party a m) (fresh_parties (a + m) m n), times_blocks b a m, times_nil b, ih, e)

record New (m : ℕ) (q : Party) : Type 0 where
  ready : length q.ready ≡ m
  retired : length q.retired ≡ 0
  job : q.job ≡ Idle

new_seat : (a m n p : ℕ) → p < n → New m (get_or (fresh_parties a m n) p nobody)
new_seat a m zero p h = absurd (omega arith)
new_seat a m (suc n) zero h = record { ready = length-range_with_len a m; retired = refl; job = refl }
new_seat a m (suc n) (suc p) h = new_seat (a + m) m n p (omega arith)

pub fresh_sound : {R : Type 0} (pl : Plan) (row : List R) → Small pl → need Block pl ≤ length row → Sound (fresh pl row)
unfolding standings
fresh_sound pl row small h = record {
  small = small;
  rows = h;
  currents = length-range_with_len 0 pl.channels;
  links = length-replicate (width pl) unused;
  parties = length_seats pl.channels (share pl) pl.parties;
  once = λ b. omega (arith, times_blocks b 0 pl.channels, below_zero b, ap (below b) (zero_plus pl.channels), sum_seats b pl.channels (share pl) pl.parties);
  held = λ j k c e. absurd (none_not_some c (sym (ap (λ l. l.hold) (get_or-replicate (width pl) j unused unused k)) ∙ e));
  jobs = λ p k. let q = get_or (fresh_parties pl.channels (share pl) pl.parties) p nobody in let n = new_seat pl.channels (share pl) pl.parties p k in record {
    size = omega (arith, n.ready, n.retired, ap (λ x. length (in_hand x)) n.job);
    task = subst (JobOk (fresh pl row) p q) (sym n.job) (omega (arith, n.ready));
  };
}
  where
    below_zero : (b : ℕ) → below b 0 ≡ 0
    below_zero b = grind (arith, nat_tests)

    zero_plus : (n : ℕ) → 0 + n ≡ n
    zero_plus n = omega arith
