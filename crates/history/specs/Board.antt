-- The ideal board: a reading for each channel, and two moves, each indivisible.
use Rattle.std.specs.Prelude.{◌≡◌, List, [], ◌∷◌, map, cond, ◌⊎◌, ℕ, eqb}

-- an amendment of a channel by a word, or a picture of the listed channels
pub data Order : Type 0 where
  amendment : (channel word : ℕ) → Order
  picture : (channels : List ℕ) → Order

-- the channels of an order, in the order of the links that hold them
abbrev pub listed : Order → List ℕ
listed (amendment c w) = c ∷ []
listed (picture cs) = cs

-- f, but v at p
unfoldable pub updated : {A : Type 0} → (ℕ → A) → ℕ → A → ℕ → A
updated f p v q = cond (eqb q p) v (f q)

-- an operation that the board plays: the place of its order among the calls, the order, and its answer
pub record Entry (R : Type 0) : Type 0 where
  pub op : ℕ
  pub order : Order
  pub answer : List R

module _ {R : Type 0} where
  -- the board answers the readings of the channels: of an amendment the old one
  abbrev pub board_answer : (ℕ → R) → Order → List R
  board_answer board o = map board (listed o)

  -- an amendment then stores what the word makes of it
  abbrev pub board_after : (amended : R → ℕ → R) → Order → (ℕ → R) → ℕ → R
  board_after amended (amendment c w) board = updated board c (amended (board c) w)
  board_after amended (picture cs) board = board

  -- played along a list of operations, the board gives each its answer
  abbrev pub GivesAnswers : (amended : R → ℕ → R) → (ℕ → R) → List (Entry R) → Type 0
  GivesAnswers amended board [] = Unit {0}
  GivesAnswers amended board (x ∷ xs) = (x.answer ≡ board_answer board x.order) × GivesAnswers amended (board_after amended x.order board) xs

  -- and what it holds at the end
  abbrev pub board_at_end : (amended : R → ℕ → R) → (ℕ → R) → List (Entry R) → ℕ → R
  board_at_end amended board [] = board
  board_at_end amended board (x ∷ xs) = board_at_end amended (board_after amended x.order board) xs

  -- ** lists of operations

  abbrev pub StandsIn : Entry R → List (Entry R) → Type 0
  StandsIn x [] = ⊥
  StandsIn x (y ∷ ys) = (x ≡ y) ⊎ StandsIn x ys

  -- P holds between each operation and each that stands behind it
  abbrev pub Along : (Entry R → Entry R → Type 0) → List (Entry R) → Type 0
  Along P [] = Unit {0}
  Along P (x ∷ xs) = ((y : Entry R) → StandsIn y xs → P x y) × Along P xs
