-- Refusals on the flag shelf: two parties, three links, 64 channels.
use Rattle.std.specs.Prelude.{◌≡◌, ℕ, List, [], ◌∷◌, replicate}
use Rattle.plan.specs.Refusals.{Outcome, accepted, refused}
use Rattle.plan.specs.Plans.{need}
use Rattle.plan.specs.declared.check.Plan.{Plan}
use Rattle.plan.specs.declared.check.ShelfType.TheVariants.{Flag}
use Rattle.reading.specs.Kinds.{KindOf}
use Rattle.reading.specs.Tallies.{tally_kind}
use Rattle.reading.specs.Captures.{capture_kind}
use Rattle.flag_rules.specs.Flags.{made}
use Rattle.flag_rules.proofs.AsShelf.{flag_shelf_rules}
use Rattle.hub_rules.specs.Hub.{Call, Amendment, Picture, Turn, Release, Look, Hub, made_on, after_all, granted}

abbrev pub wide : Plan
wide = record { parties = 2; links = 3; channels = 64 }

-- a hub made on a shelf of a plan, on so many blocks
abbrev pub hub_on : {R : Type 0} (kind : KindOf R) → Plan → ℕ → Hub (flag_shelf_rules kind.blank)
hub_on kind pl blocks = made_on (flag_shelf_rules kind.blank) (made kind.blank pl (replicate blocks kind.blank))

-- tallies: what a call answers after others
abbrev pub hub_after : List Call → Hub (flag_shelf_rules tally_kind.blank)
hub_after calls = after_all tally_kind (flag_shelf_rules tally_kind.blank) (hub_on tally_kind wide (need Flag wide)) calls

abbrev pub answers : List Call → Call → Outcome (Unit {0})
answers before k = granted tally_kind (flag_shelf_rules tally_kind.blank) (hub_after before) k

-- the same on a shelf whose plan was refused for want of blocks
abbrev pub answers_on_none : Call → Outcome (Unit {0})
answers_on_none k = granted tally_kind (flag_shelf_rules tally_kind.blank) (hub_on tally_kind wide 0) k

pub record Refuses : Type 0 where
  -- no such party, or a shelf that has none
  pub no_party : answers [] (Amendment 2 64 0) ≡ refused 1
  pub none_amends : answers_on_none (Amendment 0 0 5) ≡ refused 1
  pub none_pictures : answers_on_none (Picture 0 []) ≡ refused 1
  pub none_turns : answers_on_none (Turn 0) ≡ refused 1
  pub none_releases : answers_on_none (Release 0) ≡ refused 1
  pub none_looks : answers_on_none (Look 0 0) ≡ refused 1
  -- a busy party, before and after its first turn
  pub busy_amends : answers (Amendment 0 0 5 ∷ []) (Amendment 0 64 5) ≡ refused 2
  pub busy_pictures : answers (Amendment 0 0 5 ∷ []) (Picture 0 []) ≡ refused 2
  pub busy_releases : answers (Amendment 0 0 5 ∷ Turn 0 ∷ []) (Release 0) ≡ refused 2
  pub busy_looks : answers (Amendment 0 0 5 ∷ Turn 0 ∷ []) (Look 0 0) ≡ refused 2
  -- another party is not
  pub other_releases : answers (Amendment 0 0 5 ∷ Turn 0 ∷ []) (Release 1) ≡ accepted tt
  -- a turn with nothing to do
  pub idle_turns : answers (Amendment 0 0 5 ∷ Turn 0 ∷ Turn 0 ∷ []) (Turn 0) ≡ refused 3
  -- lists: too short and too long, then a channel that is not there, then one twice, each over the whole list
  pub empty_list : answers [] (Picture 0 []) ≡ refused 5
  pub long_list : answers [] (Picture 0 (1 ∷ 1 ∷ 127 ∷ 2 ∷ [])) ≡ refused 5
  pub no_channel : answers [] (Picture 0 (1 ∷ 1 ∷ 127 ∷ [])) ≡ refused 6
  pub twice : answers [] (Picture 0 (1 ∷ 2 ∷ 1 ∷ [])) ≡ refused 7
  pub good_list : answers [] (Picture 0 (1 ∷ 2 ∷ 63 ∷ [])) ≡ accepted tt
  pub no_channel_to_amend : answers [] (Amendment 0 64 5) ≡ refused 6
  -- looks
  pub no_link : answers [] (Look 0 3) ≡ refused 4
  pub empty_link : answers [] (Look 0 2) ≡ refused 8
  pub released : answers (Amendment 0 0 5 ∷ Turn 0 ∷ Turn 0 ∷ Release 0 ∷ []) (Look 0 0) ≡ refused 8
  -- a word that captures do not admit
  pub not_admitted : granted capture_kind (flag_shelf_rules capture_kind.blank) (hub_on capture_kind wide (need Flag wide)) (Amendment 0 0 0xFFFFFFFE00020000) ≡ refused 9
  pub admitted : granted capture_kind (flag_shelf_rules capture_kind.blank) (hub_on capture_kind wide (need Flag wide)) (Amendment 0 0 0xFFFFFFFE00010000) ≡ accepted tt
