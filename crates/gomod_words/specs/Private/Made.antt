-- What the parser is given of a row of the table of commands.
use Rattle.std.specs.Prelude.{◌≡◌, ◌∷◌, IfOk, [], Result, Some}
use Rattle.clap.specs.Lexer.{usize_max}
use Rattle.clap.specs.Simple.{App, app_of, new_rule}
use Rattle.clap.specs.Walk.{Rule}
use Rattle.clap.specs.declared.builder.action.ArgAction.TheVariants.{SetTrue}
use Rattle.clap.specs.declared.builder.command.Command.{Command}
use Rattle.gomod_words.specs.declared.table.ArgumentRow.{ArgumentRow}
use Rattle.gomod_words.specs.declared.table.Form.{Form}
use Rattle.gomod_words.specs.declared.table.Form.TheVariants as form

-- the parser reads the command like this, unless memory ran out before it was made
abbrev pub IsMade : {E : Type 0} → App → Result Command E → Type 0
IsMade app made = IfOk made (λ command. app_of command ≡ app)

-- an argument of this form, from what all forms have
abbrev pub formed : Form → Rule → Rule
formed form.Operand rule = record rule { value_names = 1 }
formed form.Operands rule =
    record rule { value_names = 1; range = Some (record { start_inclusive = 1; end_inclusive = usize_max }) }
formed form.Option rule = record rule { value_names = 1; long = Some rule.id }
formed (form.Default value) rule = record rule { value_names = 1; long = Some rule.id; defaults = value.now ∷ [] }
formed form.Flag rule = record rule { long = Some rule.id; action = Some SetTrue }

-- what the parser reads of an argument with this row
abbrev pub rule_in : ArgumentRow → Rule
rule_in row = formed row.form (record (new_rule row.name.now) { required = row.is_required })
