-- A line with a directive adds what the directive adds.
use Rattle.std.proofs.Common.{◌≡◌, Some, Result, Ok, Err}
use Rattle.gm_file.specs.declared.fault.LineFault.{LineFault}
use Rattle.gm_file.specs.declared.fault.LineFault.TheVariants as line
use Rattle.gm_file.specs.declared.fields.Fields.{Fields}
use Rattle.gm_file.specs.Directives.{Mode, Directive, Item, Silent, Opening, Saying, directive_in}
use Rattle.gm_file.specs.Private.Holding.{IsAdded, IsLineAdded}

pub line-added : (mode : Mode) (old new : Fields) (item : Item) (d : Directive) (result : Result (Unit {0}) LineFault)
    → directive_in mode item ≡ Some d → IsAdded mode old new d result → IsLineAdded mode old new item result
line-added mode old new Silent d result e added = absurd cc
line-added mode old new (Opening verb) d result e added = absurd cc
line-added mode old new (Saying verb arguments) d (Ok u) e added = rw e (λ ds h. added ds h)
line-added mode old new (Saying verb arguments) d (Err line.NoMemory) e added = tt
line-added mode old new (Saying verb arguments) d (Err (line.Kind kind)) e added = rw e (λ ds h. added ds h)
