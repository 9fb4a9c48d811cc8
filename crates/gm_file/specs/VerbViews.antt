-- The program's modes as contracts see them.
use Rattle.gm_file.specs.declared.verb.Mode as declared
use Rattle.gm_file.specs.declared.verb.Mode.TheVariants as mode
use Rattle.gm_file.specs.Directives.{Mode, Strict, Lax}

-- a mode, as contracts state it
abbrev pub mode_view : declared.Mode → Mode
mode_view mode.Strict = Strict
mode_view mode.Lax = Lax
