-- The words for the two shelves.
use Rattle.std.specs.Prelude.{ℕ, List, codes}
use Rattle.plan.specs.declared.check.ShelfType.{ShelfType}
use Rattle.plan.specs.declared.check.ShelfType.TheVariants.{Flag, Block}

abbrev pub shelf_word : ShelfType → List ℕ
shelf_word Flag = codes "flag"
shelf_word Block = codes "block"
