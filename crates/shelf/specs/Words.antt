-- The words for what a turn answers.
use Rattle.std.specs.Prelude.{ℕ, List, codes}
use Rattle.shelf.specs.declared.answer.Answer.{Answer}
use Rattle.shelf.specs.declared.answer.Answer.TheVariants.{Run, Taken, Stored, Missed, Live, Broken}

abbrev pub answer_word : Answer → List ℕ
answer_word Run = codes "run"
answer_word Taken = codes "taken"
answer_word Stored = codes "stored"
answer_word Missed = codes "missed"
answer_word Live = codes "live"
answer_word Broken = codes "broken"
