-- Headers and faults in plain words.
use Rattle.std.specs.Prelude.{ℕ, List, ◌++◌, codes}
use Rattle.std.specs.Fmt.{decimal}
use Rattle.plan.specs.Refusals.{refusal_number}
use Rattle.plan.specs.Words.{shelf_word}
use Rattle.sheet.specs.declared.words.Kind.{Kind}
use Rattle.sheet.specs.declared.words.Kind.TheVariants.{Tally, Capture}
use Rattle.sheet.specs.declared.words.Header.{Header}
use Rattle.sheet.specs.declared.words.Fault.{Fault}
use Rattle.sheet.specs.declared.words.Layer.{Layer}
use Rattle.sheet.specs.declared.words.Layer.TheVariants.{Plan, Sheet, Runner}

abbrev pub kind_word : Kind → List ℕ
kind_word Tally = codes "tally"
kind_word Capture = codes "capture"

abbrev pub layer_word : Layer → List ℕ
layer_word Plan = codes "plan"
layer_word Sheet = codes "sheet"
layer_word Runner = codes "runner"

abbrev pub header_text : Header → List ℕ
header_text h =
    codes "sheet kind " ++ kind_word h.kind ++ codes " shelf " ++ shelf_word h.shelf ++ codes " parties " ++ decimal h.plan.parties
    ++ codes " links " ++ decimal h.plan.links ++ codes " channels " ++ decimal h.plan.channels

abbrev pub fault_text : Fault → List ℕ
fault_text f = codes "fault " ++ decimal (refusal_number f.refusal) ++ codes " at " ++ decimal f.place ++ codes " (" ++ layer_word f.layer ++ codes ")"
