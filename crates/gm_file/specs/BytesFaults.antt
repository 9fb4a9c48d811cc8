-- The faults of the text and of the directives as faults of the bytes.
use Rattle.gm_syntax_words.specs.declared.fault.SyntaxFault.{SyntaxFault}
use Rattle.gm_syntax_words.specs.declared.fault.SyntaxFault.TheVariants as syntax
use Rattle.gm_file.specs.declared.fault.FileFault.{FileFault}
use Rattle.gm_file.specs.declared.fault.FileFault.TheVariants as file
use Rattle.gm_file.specs.declared.misreading.BytesFault.{BytesFault}
use Rattle.gm_file.specs.declared.misreading.BytesFault.TheVariants as fault
use Rattle.gm_file.specs.declared.misreading.Misreading.TheVariants as misreading

-- a fault of the text
abbrev pub fault_by_syntax : SyntaxFault → BytesFault
fault_by_syntax syntax.NoMemory = fault.NoMemory
fault_by_syntax syntax.TooMany = fault.Misread 0 misreading.TooMany
fault_by_syntax syntax.NotUtf8 = fault.Misread 0 misreading.NotUtf8
fault_by_syntax (syntax.Syntax line kind) = fault.Misread line (misreading.Syntax kind)

-- a fault of the directives
abbrev pub fault_by_file : FileFault → BytesFault
fault_by_file file.NoMemory = fault.NoMemory
fault_by_file (file.Directive line kind) = fault.Misread line (misreading.Directive kind)
