-- What the reader's answers tell, in the words of the law of sheets.
use Rattle.std.specs.Prelude.{◌≡◌, ℕ, Bool, List, map, take, Some, None, Ok, Err, Option, Result}
use Rattle.plan.specs.Refusals.{refusal_number}
use Rattle.plan.specs.declared.check.ShelfType.{ShelfType}
use Rattle.plan.specs.declared.check.ShelfType.TheVariants.{Flag, Block}
use Rattle.sheet_rules.specs.Contents as S
use Rattle.sheet_rules.specs.Formats.{Format, gives, field, Read, got, fails, read_as}
use Rattle.sheet.specs.Rest.{Rest}
use Rattle.sheet.specs.declared.channel_list.ChannelList.{ChannelList}
use Rattle.sheet.specs.declared.words.Kind.{Kind}
use Rattle.sheet.specs.declared.words.Kind.TheVariants.{Tally, Capture}
use Rattle.sheet.specs.declared.words.Header.{Header}
use Rattle.sheet.specs.declared.words.Record.{Record}
use Rattle.sheet.specs.declared.words.Record.TheVariants.{Amendment, Picture, Turn, Release, Look}
use Rattle.sheet.specs.declared.words.Layer.{Layer}
use Rattle.sheet.specs.declared.words.Layer.TheVariants as L
use Rattle.sheet.specs.declared.words.Fault.{Fault}
use Rattle.sheet.specs.declared.words.Summary.{Summary}

-- the numbers of kinds and shelves in a header
abbrev pub kind_number : Kind → ℕ
kind_number Tally = 0
kind_number Capture = 1

abbrev pub shelf_number : ShelfType → ℕ
shelf_number Flag = 0
shelf_number Block = 1

abbrev pub header_told : Header → S.Header
header_told h = record {
  kind = kind_number h.kind;
  shelf = shelf_number h.shelf;
  parties = h.plan.parties;
  links = h.plan.links;
  channels = h.plan.channels;
}

-- the channels that a picture lists, in order
abbrev pub channels_of : ChannelList → List ℕ
channels_of l = take l.count l.channels

abbrev pub record_told : Record → S.Entry
record_told (Amendment p c w) = S.amendment p c w
record_told (Picture p l) = S.picture p (channels_of l)
record_told (Turn p) = S.turn p
record_told (Release p) = S.release p
record_told (Look p i) = S.look p i

abbrev pub layer_told : Layer → S.Layer
layer_told L.Plan = S.plan
layer_told L.Sheet = S.sheet
layer_told L.Runner = S.runner

-- a fault by number, layer and place
abbrev pub fault_told : Fault → S.Fault
fault_told f = record { number = refusal_number f.refusal; layer = layer_told f.layer; place = f.place }

abbrev pub option_told : {A B : Type 0} → (A → B) → Option A → Option B
option_told t None = None
option_told t (Some a) = Some (t a)

-- what was read: the summary and the records beside it
abbrev pub contents_told : Summary → List Record → S.Contents
contents_told c rs = record { header = option_told header_told c.header; entries = map record_told rs; fault = option_told fault_told c.fault }

-- what a step of the reader returned, with the bits and the place where it left the reader
abbrev pub read_told : {A B : Type 0} → (A → B) → Result A Fault → List ℕ → ℕ → Read B
read_told t (Ok a) rest k = got (t a) rest k
read_told t (Err f) rest k = fails (fault_told f)

-- a step of the reader returned what a format reads there, and moved the reader behind it
abbrev pub Reads : {A B : Type 0} → (A → B) → Format B → Result A Fault → Rest → Rest → Type 0
Reads t format result old new = read_told t result new.bits new.place ≡ read_as format old.bits old.place

-- one field alone
abbrev pub one : ℕ → (ℕ → Bool) → ℕ → Format ℕ
one w wrong n = field w wrong n gives
