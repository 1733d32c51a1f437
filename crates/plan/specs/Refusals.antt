-- The numbers of the refusals, and what a call answers in terms of them.
use Rattle.std.specs.Prelude.{◌≡◌, ℕ, Bool, cond, List, [], ◌∷◌, Ok, Err, Result}
use Rattle.plan.specs.declared.refusal.Refusal.{Refusal}
use Rattle.plan.specs.declared.refusal.Refusal.TheVariants.{NoSuchParty, PartyBusy, NothingRunning, NoSuchLink, ListLength, NoSuchChannel, ChannelRepeated, LinkEmpty, WordNotAdmitted, NoSuchBlock, PartiesOutOfRange, LinksOutOfRange, ChannelsOutOfRange, TooFewBlocks, SheetEndsEarly, WrongHeader, UnknownCode, NotEmptyAfterEnd, SheetTooLong}

-- the number of each refusal
abbrev pub refusal_number : Refusal → ℕ
refusal_number NoSuchParty = 1
refusal_number PartyBusy = 2
refusal_number NothingRunning = 3
refusal_number NoSuchLink = 4
refusal_number ListLength = 5
refusal_number NoSuchChannel = 6
refusal_number ChannelRepeated = 7
refusal_number LinkEmpty = 8
refusal_number WordNotAdmitted = 9
refusal_number NoSuchBlock = 10
refusal_number PartiesOutOfRange = 11
refusal_number LinksOutOfRange = 12
refusal_number ChannelsOutOfRange = 13
refusal_number TooFewBlocks = 14
refusal_number SheetEndsEarly = 20
refusal_number WrongHeader = 21
refusal_number UnknownCode = 22
refusal_number NotEmptyAfterEnd = 23
refusal_number SheetTooLong = 24

-- what a call answers: a value, or a refusal by its number
pub data Outcome (A : Type 0) : Type 0 where
  accepted : A → Outcome A
  refused : ℕ → Outcome A

-- the outcome that a returned `Result` tells of
abbrev pub told : {A : Type 0} → Result A Refusal → Outcome A
told (Ok a) = accepted a
told (Err e) = refused (refusal_number e)

-- a line of the table of refusals: its number, and whether the call passes its test
pub record Test : Type 0 where
  pub number : ℕ
  pub passes : Bool

-- tests run down the table; the first that is not passed refuses
abbrev pub unless_refused : {A : Type 0} → List Test → A → Outcome A
unless_refused [] a = accepted a
unless_refused (t ∷ ts) a = cond t.passes (unless_refused ts a) (refused t.number)

-- no two refusals have one number
abbrev pub OwnNumbers : Type 0
OwnNumbers = (a b : Refusal) → refusal_number a ≡ refusal_number b → a ≡ b
