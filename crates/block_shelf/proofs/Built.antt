-- The making of a block shelf, on the lists that its fields hold.
use Rattle.std.proofs.Common.{◌≡◌, ℕ, zero, suc, ◌+◌, ◌-◌, ◌*◌, ◌<◌, ◌≤◌, min, List, [], ◌∷◌, ◌++◌, map, reverse, length, drop, replicate, None, sym, refl, ap, ◌∙◌, subst, arith}
use Rattle.std.proofs.lemmas.List.FromFn.{length-range_with_len}
use Rattle.std.proofs.lemmas.List.{map-append, length-reverse, reverse-append}
use Rattle.plan.specs.Plans.{width, need, plan_verdict}
use Rattle.plan.specs.Refusals.{Outcome, accepted, refused}
use Rattle.plan.specs.declared.check.Plan.{Plan}
use Rattle.plan.specs.declared.check.ShelfType.TheVariants.{Block}
use Rattle.shelf.specs.Rules.{Fresh}
use Rattle.shelf.proofs.Ranges.{Chosen, given, none, chosen_fits}
use Rattle.block_parts.specs.declared.seat.Seat.{Seat}
use Rattle.block_parts.specs.Seats.{party_of}
use Rattle.block_rules.specs.declared.parts.LinkState.{LinkState}
use Rattle.block_rules.specs.Blocks.{share, Party, State, state_of, unused, blocks_from, fresh_party, fresh_parties, made_by, made, fresh}
use Rattle.block_rules.specs.Sound.{Sound}
use Rattle.block_rules.proofs.AsShelf.{block_shelf_rules}
use Rattle.block_rules.proofs.Made.{nothing_sound, made_fresh}

-- ** one more

blocks_suc : (a n : ℕ) → blocks_from a (suc n) ≡ blocks_from a n ++ ((a + n) ∷ [])
blocks_suc a zero = let e : a ≡ a + 0 = omega arith in ap (λ (x : ℕ). x ∷ []) e
blocks_suc a (suc n) =
    let e : a + 1 + n ≡ a + suc n = omega arith in
    ap (λ (xs : List ℕ). a ∷ xs) (blocks_suc (a + 1) n ∙ ap (λ (x : ℕ). blocks_from (a + 1) n ++ (x ∷ [])) e)

pub blocks_more : (n : ℕ) (xs ys : List ℕ) → xs ≡ blocks_from 0 n → ys ≡ xs ++ (n ∷ []) → ys ≡ blocks_from 0 (n + 1)
blocks_more n xs ys e q =
    let z : 0 + n ≡ n = omega arith in
    let one : n + 1 ≡ suc n = omega arith in
    q ∙ (ap (λ (zs : List ℕ). zs ++ (n ∷ [])) e ∙ sym (ap (blocks_from 0) one ∙ (blocks_suc 0 n ∙ ap (λ (x : ℕ). blocks_from 0 n ++ (x ∷ [])) z)))

parties_suc : (a m n : ℕ) → fresh_parties a m (suc n) ≡ fresh_parties a m n ++ (fresh_party (a + n * m) m ∷ [])
parties_suc a m zero = let e : a ≡ a + 0 * m = omega arith in ap (λ (x : ℕ). fresh_party x m ∷ []) e
parties_suc a m (suc n) =
    let e : a + m + n * m ≡ a + suc n * m = omega arith in
    ap (λ (xs : List Party). fresh_party a m ∷ xs) (parties_suc (a + m) m n ∙ ap (λ (x : ℕ). fresh_parties (a + m) m n ++ (fresh_party x m ∷ [])) e)

pub parties_more : (a m n : ℕ) (xs ys : List Seat) (q : Seat) → map party_of xs ≡ fresh_parties a m n → ys ≡ xs ++ (q ∷ []) → party_of q ≡ fresh_party (a + n * m) m → map party_of ys ≡ fresh_parties a m (n + 1)
parties_more a m n xs ys q e k is =
    let one : n + 1 ≡ suc n = omega arith in
    ap (map party_of) k ∙ (map-append party_of xs (q ∷ []) ∙ (ap (λ (zs : List Party). zs ++ (party_of q ∷ [])) e
    ∙ (ap (λ (x : Party). fresh_parties a m n ++ (x ∷ [])) is ∙ sym (ap (fresh_parties a m) one ∙ parties_suc a m n))))

-- one block more is ready, on top of those that are
pub ready_more : (b end : ℕ) (xs ys : List ℕ) → 0 < b → b ≤ end → reverse xs ≡ blocks_from b (end - b) → ys ≡ xs ++ ((b - 1) ∷ []) → reverse ys ≡ blocks_from (b - 1) (end - (b - 1))
ready_more b end xs ys low high inv list =
    let one : end - (b - 1) ≡ suc (end - b) = omega arith in
    let next : b - 1 + 1 ≡ b = omega arith in
    ap reverse list ∙ (reverse-append xs ((b - 1) ∷ []) ∙ (ap (λ (zs : List ℕ). (b - 1) ∷ zs) inv
    ∙ sym (ap (blocks_from (b - 1)) one ∙ ap (λ (x : ℕ). (b - 1) ∷ blocks_from x (end - b)) next)))

pub ready_length : (b n : ℕ) (xs : List ℕ) → reverse xs ≡ blocks_from b n → length xs ≡ n
ready_length b n xs e = sym (length-reverse xs) ∙ (ap length e ∙ length-range_with_len b n)

pub all_ready : (first count b : ℕ) (xs : List ℕ) → (first ≤ b) × (reverse xs ≡ blocks_from b (first + count - b)) → b ≤ first → reverse xs ≡ blocks_from first count
all_ready first count b xs inv h =
    let same : b ≡ first = omega (arith, inv.0) in
    let all : first + count - b ≡ count = omega arith in
    inv.1 ∙ (ap (blocks_from b) all ∙ ap (λ x. blocks_from x count) same)

-- ** the whole

unused_is : (l : LinkState) → (l.seen ≡ 0) × ((l.guard ≡ None) × (l.hold ≡ None)) → l ≡ unused
unused_is l e = λ i. record { seen = e.0 i; guard = e.1.0 i; hold = e.1.1 i }

module _ {R : Type 0} (d : R) (pl : Plan) (row : List R) where
  -- the state that the rule makes of the chosen plan
  made_of : (p : Plan) → Chosen pl Block (length row) p → fresh p (replicate (need Block p) d ++ drop (need Block p) row) ≡ made d pl row
  made_of _ (given p e) = ap (made_by d row) e
  made_of _ (none n e) = ap (made_by d row) e

  -- and of the lists that the code makes
  pub made_state : (p : Plan) → Chosen pl Block (length row) p → (row' : List R) (current : List ℕ) (l : LinkState) (links : List LinkState) (parties : List Party)
      → row' ≡ replicate (min (need Block p) (length row)) d ++ drop (min (need Block p) (length row)) row → current ≡ blocks_from 0 p.channels
      → (l.seen ≡ 0) × ((l.guard ≡ None) × (l.hold ≡ None)) → links ≡ replicate (width p) l
      → parties ≡ fresh_parties p.channels (share p) p.parties → state_of p row' current links parties ≡ made d pl row
  made_state p c row' current l links parties blocks now blank linked ps =
      let rows = blocks ∙ ap (λ (n : ℕ). replicate n d ++ drop n row) (chosen_fits pl Block (length row) p c) in
      let unlinked = linked ∙ ap (replicate (width p)) (unused_is l blank) in
      (λ i. state_of p (rows i) (now i) (unlinked i) (ps i)) ∙ made_of p c

  made_is_sound : Sound (made d pl row)
  made_is_sound = go (plan_verdict pl Block (length row)) refl
    where
      go : (o : Outcome Plan) → plan_verdict pl Block (length row) ≡ o → Sound (made_by d row o)
      go (accepted x) k = subst (λ (o : Outcome Plan). Sound (made_by d row o)) k (made_fresh d pl row x (sym k)).is_sound
      go (refused n) k = nothing_sound d row

  pub made_sound : (t : State R) → t ≡ made d pl row → ∥ Sound t ∥₁
  made_sound t q = ∣ subst Sound (sym q) made_is_sound ∣₁

  -- whatever state is made, it is fresh if the check accepts
  pub fresh_made : (t : State R) → t ≡ made d pl row → (p : Plan) → accepted p ≡ plan_verdict pl Block (length row) → Fresh (block_shelf_rules d) t
  fresh_made t q p e = subst (Fresh (block_shelf_rules d)) (sym q) (made_fresh d pl row p e)
