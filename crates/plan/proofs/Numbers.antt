-- Refusals told apart by their numbers.
use Rattle.std.proofs.Common.{◌≡◌, ℕ, cond, eqb, sym, refl, ap, ◌∙◌}
use Rattle.plan.specs.declared.refusal.Refusal.{Refusal}
use Rattle.plan.specs.declared.refusal.Refusal.TheVariants.{NoSuchParty, PartyBusy, NothingRunning, NoSuchLink, ListLength, NoSuchChannel, ChannelRepeated, LinkEmpty, WordNotAdmitted, NoSuchBlock, PartiesOutOfRange, LinksOutOfRange, ChannelsOutOfRange, TooFewBlocks, SheetEndsEarly, WrongHeader, UnknownCode, NotEmptyAfterEnd, SheetTooLong}
use Rattle.plan.specs.Refusals.{refusal_number, OwnNumbers}

-- the refusal of a number
abbrev refusal_of : ℕ → Refusal
refusal_of n =
    cond (eqb n 1) NoSuchParty (
    cond (eqb n 2) PartyBusy (
    cond (eqb n 3) NothingRunning (
    cond (eqb n 4) NoSuchLink (
    cond (eqb n 5) ListLength (
    cond (eqb n 6) NoSuchChannel (
    cond (eqb n 7) ChannelRepeated (
    cond (eqb n 8) LinkEmpty (
    cond (eqb n 9) WordNotAdmitted (
    cond (eqb n 10) NoSuchBlock (
    cond (eqb n 11) PartiesOutOfRange (
    cond (eqb n 12) LinksOutOfRange (
    cond (eqb n 13) ChannelsOutOfRange (
    cond (eqb n 14) TooFewBlocks (
    cond (eqb n 20) SheetEndsEarly (
    cond (eqb n 21) WrongHeader (
    cond (eqb n 22) UnknownCode (
    cond (eqb n 23) NotEmptyAfterEnd (
    SheetTooLong))))))))))))))))))

back : (a : Refusal) → refusal_of (refusal_number a) ≡ a
back NoSuchParty = refl
back PartyBusy = refl
back NothingRunning = refl
back NoSuchLink = refl
back ListLength = refl
back NoSuchChannel = refl
back ChannelRepeated = refl
back LinkEmpty = refl
back WordNotAdmitted = refl
back NoSuchBlock = refl
back PartiesOutOfRange = refl
back LinksOutOfRange = refl
back ChannelsOutOfRange = refl
back TooFewBlocks = refl
back SheetEndsEarly = refl
back WrongHeader = refl
back UnknownCode = refl
back NotEmptyAfterEnd = refl
back SheetTooLong = refl

pub own_numbers : OwnNumbers
own_numbers a b e = sym (back a) ∙ ap refusal_of e ∙ back b
