-- A block shelf that was just made.
use Rattle.std.proofs.Common.{◌≡◌, ℕ, zero, suc, ◌+◌, ◌≤◌, List, [], ◌∷◌, ◌++◌, map, length, drop, replicate, sym, refl, ap, ◌∙◌, subst, arith}
use Rattle.std.proofs.lemmas.List.{length-append, length-replicate, get_or-replicate, get_or_append_left}
use Rattle.std.proofs.lemmas.Bool.Decides.{nat_tests}
use Rattle.plan.specs.Plans.{width, need, plan_verdict, no_plan, InRange}
use Rattle.plan.specs.Refusals.{accepted}
use Rattle.plan.specs.declared.check.Plan.{Plan}
use Rattle.plan.specs.declared.check.ShelfType.TheVariants.{Block}
use Rattle.shelf.specs.Meaning.{idle, blank_meaning}
use Rattle.shelf.specs.Rules.{Fresh}
use Rattle.shelf.proofs.Ranges.{plan_accepted, range_small}
use Rattle.block_rules.specs.Blocks.{share, state_of, unused, blocks_from, fresh_parties, fresh, made_by, made}
use Rattle.block_rules.specs.Counting.{standings, below}
use Rattle.block_rules.specs.Sound.{Sound}
use Rattle.block_rules.specs.Means.{link_from, activity_from, reading_in, means}
use Rattle.block_rules.proofs.AsShelf.{block_shelf_rules}
use Rattle.block_rules.proofs.Counts.{times_nil}
use Rattle.block_rules.proofs.Fresh.{fresh_sound}
use Rattle.block_rules.proofs.Turning.{same_meaning}

map-replicate : {X Y : Type 0} (f : X → Y) (n : ℕ) (x : X) → map f (replicate n x) ≡ replicate n (f x)
map-replicate f zero x = refl
map-replicate f (suc n) x = ap (λ ys. f x ∷ ys) (map-replicate f n x)

blank_readings : {R : Type 0} (d : R) (m : ℕ) (rest : List R) (a n : ℕ) → a + n ≤ m → map (reading_in d (replicate m d ++ rest)) (blocks_from a n) ≡ replicate n d
blank_readings d m rest a zero h = refl
blank_readings d m rest a (suc n) h = λ i. (get_or_append_left (replicate m d) rest d a (omega (arith, length-replicate m d)) ∙ get_or-replicate m a d d (omega arith)) i ∷ blank_readings d m rest (a + 1) n (omega arith) i

all_idle : {R : Type 0} (d : R) (row : List R) (a m n : ℕ) → map (activity_from d row) (fresh_parties a m n) ≡ replicate n idle
all_idle d row a m zero = refl
all_idle d row a m (suc n) = ap (λ ys. idle ∷ ys) (all_idle d row (a + m) m n)

module _ {R : Type 0} (d : R) where
  pub nothing_sound : (row : List R) → Sound (state_of no_plan row [] [] [])
  unfolding standings
  nothing_sound row = record {
    small = record { parties = omega arith; links = omega arith; channels = omega arith };
    rows = omega arith;
    currents = refl;
    links = refl;
    parties = refl;
    once = λ b. omega (arith, times_nil b, below_zero b);
    held = λ j h. absurd (omega arith);
    jobs = λ p h. absurd (omega arith);
  }
    where
      below_zero : (b : ℕ) → below b 0 ≡ 0
      below_zero b = grind (arith, nat_tests)

  module _ (pl : Plan) (row : List R) where
    abbrev blanked : List R
    blanked = replicate (need Block pl) d ++ drop (need Block pl) row

    fresh_means : means d (fresh pl blanked) ≡ blank_meaning d pl
    fresh_means = same_meaning _ _ _ _ _ _
        (blank_readings d (need Block pl) (drop (need Block pl) row) 0 pl.channels (omega arith))
        (map-replicate (link_from d blanked (blocks_from 0 pl.channels)) (width pl) unused)
        (all_idle d blanked pl.channels (share pl) pl.parties)

    is_fresh : InRange pl → Fresh (block_shelf_rules d) (fresh pl blanked)
    is_fresh r = record {
      is_sound = fresh_sound pl blanked (range_small pl r) (omega (arith, length-append (replicate (need Block pl) d) (drop (need Block pl) row), length-replicate (need Block pl) d));
      in_range = r;
      is_blank = fresh_means;
    }

    made_accepted : (given : Plan) → accepted given ≡ plan_verdict pl Block (length row) → fresh pl blanked ≡ made d pl row
    made_accepted given e =
        let t = plan_accepted pl Block (length row) given e in
        ap (λ (x : Plan). made_by d row (accepted x)) (sym t.same) ∙ ap (made_by d row) e

    pub made_fresh : (given : Plan) → accepted given ≡ plan_verdict pl Block (length row) → Fresh (block_shelf_rules d) (made d pl row)
    made_fresh given e =
        subst (Fresh (block_shelf_rules d)) (made_accepted given e) (is_fresh (plan_accepted pl Block (length row) given e).in_range)
