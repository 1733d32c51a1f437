-- What a walk that sorts the retired blocks gives.
use Rattle.std.proofs.Common.{◌≡◌, ℕ, ◌+◌, ◌<◌, ◌≤◌, Bool, true, false, cond, not, ltb, List, [], ◌∷◌, ◌++◌, length, get_or, take, sym, refl, ap, ◌∙◌, arith}
use Rattle.std.proofs.lemmas.List.{length-append, append_assoc, length-take-le, length-take, append-nil}
use Rattle.std.proofs.lemmas.List.Elements.{filter_more}
use Rattle.std.proofs.lemmas.Bool.{lt-ltb, cond-true}
use Rattle.block_parts.specs.declared.block_list.BlockList.{BlockList}
use Rattle.block_parts.specs.Lists.{blocks_in}
use Rattle.block_rules.specs.Blocks.{among, unread, still_held}
use Rattle.std.proofs.lemmas.List.Filters.{length-filter_both}

-- a push with room
pub appended : (xs ys : List ℕ) (b : ℕ) (t : Bool) → t ≡ ltb (length xs) 97 → ys ≡ cond t (xs ++ (b ∷ [])) xs → length xs < 97 → ys ≡ xs ++ (b ∷ [])
appended xs ys b t room list h = list ∙ cond-true t (xs ++ (b ∷ [])) xs (room ∙ lt-ltb (length xs) 97 h)

-- ** the end of a scan

-- after i of the retired blocks: the unread ones are on ready, if there is room for all, and the others are held
abbrev pub SortedOut : List ℕ → List ℕ → List ℕ → ℕ → List ℕ → List ℕ → Type 0
SortedOut read items before i ready held =
    (length before + length items ≤ 97 → ready ≡ before ++ unread read (take i items)) × (held ≡ still_held read (take i items))

module _ (read items before : List ℕ) (i : ℕ) (in_items : i < length items) (small : length items ≤ 97) (ready held : List ℕ) (inv : SortedOut read items before i ready held) where
  lengths : length (unread read (take i items)) + length (still_held read (take i items)) ≡ i
  lengths = omega (arith, length-filter_both (λ x. among x read) (λ x. not (among x read)) (λ _. refl) (take i items), length-take-le i items (omega arith))

  -- the next one, read or not
  pub next_read : among (get_or items i 0) read ≡ true → (held' : List ℕ) (t : Bool) → t ≡ ltb (length held) 97 → held' ≡ cond t (held ++ (get_or items i 0 ∷ [])) held
      → SortedOut read items before (i + 1) ready held'
  next_read e held' t room list = (
    λ fits. inv.0 fits ∙ ap (λ (xs : List ℕ). before ++ xs) (sym (filter_more (λ x. not (among x read)) items i 0 in_items
        ∙ (ap (λ (u : Bool). unread read (take i items) ++ cond (not u) (get_or items i 0 ∷ []) []) e ∙ append-nil (unread read (take i items))))),
    appended held held' (get_or items i 0) t room list (omega (arith, ap length inv.1, lengths))
        ∙ (ap (λ (xs : List ℕ). xs ++ (get_or items i 0 ∷ [])) inv.1
        ∙ sym (filter_more (λ x. among x read) items i 0 in_items ∙ ap (λ (u : Bool). still_held read (take i items) ++ cond u (get_or items i 0 ∷ []) []) e)),
  )

  pub next_unread : among (get_or items i 0) read ≡ false → (ready' : List ℕ) (t : Bool) → t ≡ ltb (length ready) 97 → ready' ≡ cond t (ready ++ (get_or items i 0 ∷ [])) ready
      → SortedOut read items before (i + 1) ready' held
  next_unread e ready' t room list = (
    λ fits. appended ready ready' (get_or items i 0) t room list
        (omega (arith, ap length (inv.0 fits), length-append before (unread read (take i items)), lengths, fits))
        ∙ (ap (λ (xs : List ℕ). xs ++ (get_or items i 0 ∷ [])) (inv.0 fits)
        ∙ (append_assoc before (unread read (take i items)) (get_or items i 0 ∷ [])
        ∙ ap (λ (xs : List ℕ). before ++ xs) (sym (filter_more (λ x. not (among x read)) items i 0 in_items
        ∙ ap (λ (u : Bool). unread read (take i items) ++ cond (not u) (get_or items i 0 ∷ []) []) e)))),
    inv.1 ∙ sym (filter_more (λ x. among x read) items i 0 in_items
        ∙ (ap (λ (u : Bool). still_held read (take i items) ++ cond u (get_or items i 0 ∷ []) []) e ∙ append-nil (still_held read (take i items)))),
  )

pub list_small : (l : BlockList) → length (blocks_in l) ≤ 97
list_small l = omega (arith, length-take l.len l.blocks, l.fits)
