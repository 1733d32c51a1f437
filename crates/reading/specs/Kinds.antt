-- Kinds of reading.
use Rattle.std.specs.Prelude.{ℕ, Bool, [], ◌∷◌}
use Rattle.plan.specs.Refusals.{Outcome, unless_refused}

-- a kind: its blank reading, the words that it admits, what an admitted word makes of a reading, and the word that shows a reading
pub record KindOf (R : Type 0) : Type 0 where
  pub blank : R
  pub admits : ℕ → Bool
  pub amended : R → ℕ → R
  pub shown : R → ℕ

-- amending a reading by a word: what the word makes of it, or 9 if the kind does not admit the word
abbrev pub amendment : {R : Type 0} → KindOf R → R → ℕ → Outcome R
amendment kind r w = unless_refused (record { number = 9; passes = kind.admits w } ∷ []) (kind.amended r w)
