-- The exact rules of the hub, over any shelf's rules and any kind of reading: when a call is refused, what it answers,
-- and the hub then. They are total, since a hub may be made on any shelf.
use Rattle.std.specs.Prelude.{ℕ, zero, suc, ◌+◌, ◌-◌, Bool, true, false, cond, not, ◌&&◌, List, [], ◌∷◌, ◌++◌, length, take, replicate, ◌==◌, nat_lt, slice_index, slice_index_or, slice_set}
use Rattle.std.specs.List.{list_all, list_any}
use Rattle.plan.specs.Refusals.{Outcome, accepted, refused, Test, unless_refused}
use Rattle.plan.specs.Plans.{between}
use Rattle.plan.specs.declared.check.Plan.{Plan}
use Rattle.reading.specs.Kinds.{KindOf}
use Rattle.shelf.specs.declared.answer.Answer.{Answer}
use Rattle.shelf.specs.declared.answer.Answer.TheVariants.{Run, Taken, Stored, Missed, Live, Broken}
use Rattle.shelf.specs.Meaning.{flat, Meaning, link_at, activity_of}
use Rattle.shelf.specs.Rules.{Rules}
use Rattle.shelf.specs.Calls as shelf
use Rattle.shelf.specs.Calls.{is_idle, reading_on, leaves}
use Rattle.hub_rules.specs.declared.parts.ChannelList.{ChannelList}
use Rattle.hub_rules.specs.declared.parts.Party.{Party}
use Rattle.hub_rules.specs.declared.parts.Party.TheVariants.{Idle, AmendmentTake, AmendmentPut, PictureTake, PictureCheck}
use Rattle.hub_rules.specs.declared.parts.Progress.{Progress}
use Rattle.hub_rules.specs.declared.parts.Progress.TheVariants as progress

pub data Call : Type 0 where
  Amendment : (party channel word : ℕ) → Call
  Picture : (party : ℕ) (channels : List ℕ) → Call
  Turn : (party : ℕ) → Call
  Release : (party : ℕ) → Call
  Look : (party link : ℕ) → Call

-- the hub: its shelf, and a record for each party
pub record Hub {R : Type 0} (rules : Rules R) : Type 0 where
  pub shelf : rules.State
  pub table : List Party

-- a hub made on a shelf
abbrev pub made_on : {R : Type 0} (rules : Rules R) → rules.State → Hub rules
made_on rules s = record { shelf = s; table = replicate (rules.plan s).parties Idle }

-- ** lists of channels

-- the channels of a stored list, and a list of at most four as it is stored
abbrev pub channels_of : ChannelList → List ℕ
channels_of l = take l.count l.channels

abbrev pub stored : List ℕ → ChannelList
stored cs = record { channels = cs ++ replicate (4 - length cs) 0; count = length cs }

-- no channel stands twice
abbrev pub none_twice : List ℕ → Bool
none_twice [] = true
none_twice (c ∷ cs) = not (list_any (λ d. c == d) cs) && none_twice cs

-- ** a party's operation

abbrev pub is_free : Party → Bool
is_free Idle = true
is_free (AmendmentTake c w) = false
is_free (AmendmentPut c w) = false
is_free (PictureTake l i) = false
is_free (PictureCheck l i) = false

abbrev pub progress_of : Party → Progress
progress_of Idle = progress.Done
progress_of (AmendmentTake c w) = progress.Run
progress_of (AmendmentPut c w) = progress.Run
progress_of (PictureTake l i) = progress.Run
progress_of (PictureCheck l i) = progress.Run

-- what follows from the shelf's answer. A missed put and a broken link begin again with the first take; a put that
-- stored, and a last link found live, end the operation. An answer to another shelf operation changes nothing
abbrev pub next : Party → Answer → Party
next Idle a = Idle
next (AmendmentTake c w) Run = AmendmentTake c w
next (AmendmentTake c w) Taken = AmendmentPut c w
next (AmendmentTake c w) Stored = AmendmentTake c w
next (AmendmentTake c w) Missed = AmendmentTake c w
next (AmendmentTake c w) Live = AmendmentTake c w
next (AmendmentTake c w) Broken = AmendmentTake c w
next (AmendmentPut c w) Run = AmendmentPut c w
next (AmendmentPut c w) Taken = AmendmentPut c w
next (AmendmentPut c w) Stored = Idle
next (AmendmentPut c w) Missed = AmendmentTake c w
next (AmendmentPut c w) Live = AmendmentPut c w
next (AmendmentPut c w) Broken = AmendmentPut c w
next (PictureTake l i) Run = PictureTake l i
next (PictureTake l i) Taken = cond (nat_lt (i + 1) (length (channels_of l))) (PictureTake l (i + 1)) (PictureCheck l 0)
next (PictureTake l i) Stored = PictureTake l i
next (PictureTake l i) Missed = PictureTake l i
next (PictureTake l i) Live = PictureTake l i
next (PictureTake l i) Broken = PictureTake l i
next (PictureCheck l i) Run = PictureCheck l i
next (PictureCheck l i) Taken = PictureCheck l i
next (PictureCheck l i) Stored = PictureCheck l i
next (PictureCheck l i) Missed = PictureCheck l i
next (PictureCheck l i) Live = cond (nat_lt (i + 1) (length (channels_of l))) (PictureCheck l (i + 1)) Idle
next (PictureCheck l i) Broken = PictureTake l 0

abbrev pub next_of : Party → Outcome Answer → Party
next_of y (accepted a) = next y a
next_of y (refused n) = y

-- what was accepted, or d
abbrev pub accepted_or : {A : Type 0} → A → Outcome A → A
accepted_or d (accepted a) = a
accepted_or d (refused n) = d

module _ {R : Type 0} (kind : KindOf R) (rules : Rules R) where
  -- ** the shelf below

  -- the links of party p below n dropped, from 0 up
  abbrev pub emptied : rules.State → ℕ → ℕ → rules.State
  emptied s p zero = s
  emptied s p (suc n) = let t = emptied s p n in shelf.after rules t (shelf.Drop p n)

  -- a shelf operation started, if none of party p runs
  abbrev pub started : rules.State → ℕ → shelf.Call R → rules.State
  started s p k = cond (is_idle (activity_of (rules.means s) p)) (shelf.after rules s k) s

  -- the reading that party p took on link 0
  abbrev pub taken_by : rules.State → ℕ → R
  taken_by s p = accepted_or kind.blank (shelf.looked rules s p 0)

  -- the shelf operation that party p's operation is at, started
  abbrev pub begun : rules.State → ℕ → Party → rules.State
  begun s p Idle = s
  begun s p (AmendmentTake c w) = started s p (shelf.Take p 0 c)
  begun s p (AmendmentPut c w) = started s p (shelf.Put p 0 (kind.amended (taken_by s p) w))
  begun s p (PictureTake l i) = started s p (shelf.Take p i (slice_index (channels_of l) i))
  begun s p (PictureCheck l i) = started s p (shelf.Check p i)

  -- ** the calls

  abbrev pub party_of : Hub rules → ℕ → Party
  party_of h p = slice_index_or h.table p Idle

  module _ (h : Hub rules) where
    abbrev pub plan_of : Plan
    plan_of = rules.plan h.shelf

    abbrev pub means_now : Meaning R
    means_now = rules.means h.shelf

    -- the tests that only the hub has: no operation runs, the hub's or the shelf's; one of the hub's runs; a list's
    -- length; its channels; no channel twice; the word
    abbrev pub free : ℕ → Test
    free p = record { number = 2; passes = is_free (party_of h p) && is_idle (activity_of means_now p) }

    abbrev pub busy : ℕ → Test
    busy p = record { number = 3; passes = not (is_free (party_of h p)) }

    abbrev pub has_length : List ℕ → Test
    has_length cs = record { number = 5; passes = between 1 plan_of.links (length cs) }

    abbrev pub has_channels : List ℕ → Test
    has_channels cs = record { number = 6; passes = list_all (λ c. nat_lt c plan_of.channels) cs }

    abbrev pub lists_once : List ℕ → Test
    lists_once cs = record { number = 7; passes = none_twice cs }

    abbrev pub admitted : ℕ → Test
    admitted w = record { number = 9; passes = kind.admits w }

    -- the tests of each call, down the table of refusals
    abbrev pub tests_of : Call → List Test
    tests_of (Amendment p c w) = shelf.known plan_of means_now p ∷ free p ∷ shelf.has_channel plan_of means_now c ∷ admitted w ∷ []
    tests_of (Picture p cs) = shelf.known plan_of means_now p ∷ free p ∷ has_length cs ∷ has_channels cs ∷ lists_once cs ∷ []
    tests_of (Turn p) = shelf.known plan_of means_now p ∷ busy p ∷ []
    tests_of (Release p) = shelf.known plan_of means_now p ∷ free p ∷ []
    tests_of (Look p i) = shelf.known plan_of means_now p ∷ free p ∷ shelf.has_link plan_of means_now i ∷ shelf.full plan_of means_now p i ∷ []

    -- the hub after an accepted order, which empties all links of its party and sets the operation running
    abbrev pub ordered : ℕ → Party → Hub rules
    ordered p y = record { shelf = emptied h.shelf p plan_of.links; table = slice_set h.table p y }

    -- the record of party p, whose record was y, after a turn
    abbrev pub next_at : ℕ → Party → Party
    next_at p y = next_of y (shelf.turn_answer rules (begun h.shelf p y) p)

    -- the hub after a turn, which starts the shelf operation if none runs, and gives the shelf one turn
    abbrev pub turned : ℕ → Party → Hub rules
    turned p y = record { shelf = shelf.after rules (begun h.shelf p y) (shelf.Turn p); table = slice_set h.table p (next_at p y) }

    -- the hub after an accepted call
    abbrev pub hub_after : Call → Hub rules
    hub_after (Amendment p c w) = ordered p (AmendmentTake c w)
    hub_after (Picture p cs) = ordered p (PictureTake (stored cs) 0)
    hub_after (Turn p) = turned p (party_of h p)
    hub_after (Release p) = record { shelf = emptied h.shelf p plan_of.links; table = h.table }
    hub_after (Look p i) = h

    -- the hub after any call
    abbrev pub after : Call → Hub rules
    after k = leaves h (unless_refused (tests_of k) (hub_after k))

    -- what an order or a release answers; a turn; a look
    abbrev pub granted : Call → Outcome (Unit {0})
    granted k = unless_refused (tests_of k) tt

    abbrev pub turn_answer : ℕ → Outcome Progress
    turn_answer p = unless_refused (tests_of (Turn p)) (progress_of (next_at p (party_of h p)))

    abbrev pub looked : ℕ → ℕ → Outcome R
    looked p i = unless_refused (tests_of (Look p i)) (reading_on rules.blank (link_at means_now (flat plan_of p i)))

  -- the hub after a list of calls
  abbrev pub after_all : Hub rules → List Call → Hub rules
  after_all h [] = h
  after_all h (k ∷ ks) = after_all (after h k) ks
