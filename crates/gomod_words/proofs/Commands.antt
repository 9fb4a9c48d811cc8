-- What a command is, from what the parser reads of it.
use Rattle.std.proofs.Common.{◌≡◌, ◌∙◌, ◌∷◌, ◌++◌, ◌+◌, ◌<◌, ◌&&◌, ℕ, not, Bool, List, [], true, false, ap, ap₂, get_or, length, map, refl, sym, take}
use Rattle.std.proofs.lemmas.List.{map_more, map_push}
use Rattle.clap.specs.Built.{AddsArg, AddsInTurn, AddsSubcommand}
use Rattle.clap.specs.Simple.{App, app_of, new_app, with_rule, with_subcommand}
use Rattle.clap.specs.Walk.{Rule, Text, is_empty, rule_of}
use Rattle.clap.specs.declared.builder.arg.Arg.{Arg}
use Rattle.clap.specs.declared.builder.command.Command.{Command}
use Rattle.clap.specs.declared.builder.command.Command.TheViews.{out-Command}
use Rattle.gomod_words.specs.Private.Made.{formed, rule_in}
use Rattle.gomod_words.specs.Table.{app_in, arguments_in, name_in, rule_for, with_rules_for, with_commands}
use Rattle.gomod_words.specs.declared.table.Argument.{Argument}
use Rattle.gomod_words.specs.declared.table.Argument.TheVariants as a
use Rattle.gomod_words.specs.declared.table.ArgumentRow.{ArgumentRow}
use Rattle.gomod_words.specs.declared.table.CommandName.{CommandName}
use Rattle.gomod_words.specs.declared.table.Form.{Form}
use Rattle.gomod_words.specs.declared.table.Form.TheVariants as form

third_unset : (a b c d : Bool) → (a && (b && (not c && d))) ≡ true → c ≡ false
third_unset true true false d holds = refl
third_unset true true true d holds = cc holds
third_unset true false c d holds = cc holds
third_unset false b c d holds = cc holds

-- a command that is read as plain has no argument that its subcommands take too
local_if_plain : (command : Command) → (app_of command).top.is_plain ≡ true → (out-Command command).has_globals ≡ false
local_if_plain command plain =
    let c = out-Command command in
    third_unset _ _ _ _ plain

last_unset : (a b c d e f g h i j : Bool) → (a && (b && (c && (d && (e && (f && (g && (h && (i && not j))))))))) ≡ true → j ≡ false
last_unset true true true true true true true true true false holds = refl
last_unset true true true true true true true true true true holds = cc holds
last_unset true true true true true true true true false j holds = cc holds
last_unset true true true true true true true false i j holds = cc holds
last_unset true true true true true true false h i j holds = cc holds
last_unset true true true true true false g h i j holds = cc holds
last_unset true true true true false f g h i j holds = cc holds
last_unset true true true false e f g h i j holds = cc holds
last_unset true true false d e f g h i j holds = cc holds
last_unset true false c d e f g h i j holds = cc holds
last_unset false b c d e f g h i j holds = cc holds

-- an argument that is read as simple is none that subcommands take too
local_if_simple : (arg : Arg) → (rule_of arg).is_simple ≡ true → arg.global ≡ false
local_if_simple arg simple =
    last_unset _ _ (is_empty arg.groups.items) _
    _ (not arg.allow_hyphen_values) _ _ (not arg.last) arg.global simple

-- every argument is read as simple
is_simple : (argument : Argument) → (rule_for argument).is_simple ≡ true
is_simple a.FmtFile = refl
is_simple a.EditFile = refl
is_simple a.Operations = refl
is_simple a.Path = refl
is_simple a.Proxy = refl
is_simple a.RequiredProxy = refl
is_simple a.Mod = refl
is_simple a.Sum = refl
is_simple a.After = refl
is_simple a.Limit = refl
is_simple a.Retracted = refl

-- arguments of these rows, added in turn
pub arguments_add : (old new : Command) (args : List Arg) (rows : List Argument) → map rule_of args ≡ map rule_for rows
    → AddsInTurn AddsArg old args new → app_of new ≡ with_rules_for (app_of old) rows
arguments_add old new [] [] same adds = ap app_of (sym adds)
arguments_add old new [] (row ∷ rows) same adds = cc same
arguments_add old new (arg ∷ args) [] same adds = cc same
arguments_add old new (arg ∷ args) (row ∷ rows) same adds =
    let first : rule_of arg ≡ rule_for row = cc same in
    let rest : map rule_of args ≡ map rule_for rows = cc same in
    let local = local_if_simple arg (ap (λ rule. rule.is_simple) first ∙ is_simple _) in
    let added = adds.1.shape local ∙ ap (λ rule. with_rule (app_of old) rule) first in
    arguments_add _ new _ rows rest adds.2 ∙ ap (λ app. with_rules_for app rows) added

-- arguments leave a command plain
plain_with : (app : App) (rows : List Argument) → (with_rules_for app rows).top.is_plain ≡ app.top.is_plain
plain_with app [] = refl
plain_with app (row ∷ rows) = plain_with _ rows

-- commands of these rows, added in turn
pub commands_add : (old new : Command) (commands : List Command) (rows : List CommandName) → map app_of commands ≡ map app_in rows
    → AddsInTurn AddsSubcommand old commands new → app_of new ≡ with_commands (app_of old) rows
commands_add old new [] [] same adds = ap app_of (sym adds)
commands_add old new [] (row ∷ rows) same adds = cc same
commands_add old new (command ∷ commands) [] same adds = cc same
commands_add old new (command ∷ commands) (row ∷ rows) same adds =
    let first : app_of command ≡ app_in row = cc same in
    let rest : map app_of commands ≡ map app_in rows = cc same in
    let local = local_if_plain _ (ap (λ (app : App). app.top.is_plain) first ∙ plain_with _ (arguments_in row)) in
    let added = adds.1.shape local ∙ ap (λ app. with_subcommand (app_of old) app.top) first in
    commands_add _ new _ rows rest adds.2 ∙ ap (λ app. with_commands app rows) added

-- one command more
pub command_more : (made new : List Command) (names : List CommandName) (i : ℕ) (d : CommandName) (command : Command) (text : Text) (arguments : List Argument)
    → i < length names → map app_of made ≡ map app_in (take i names) → new ≡ made ++ command ∷ []
    → app_of command ≡ with_rules_for (new_app text) arguments → text ≡ name_in (get_or names i d) → arguments ≡ arguments_in (get_or names i d)
    → map app_of new ≡ map app_in (take (i + 1) names)
command_more made new names i d command text arguments less before items is name_is arguments_are =
    ap (λ commands. map app_of commands) items ∙ map_push _ _ command
    ∙ ap (λ apps. apps ++ app_of command ∷ []) before
    ∙ ap (λ app. map app_in (take i names) ++ app ∷ [])
    (is ∙ ap₂ (λ (name : Text) (all : List Argument). with_rules_for (new_app name) all) name_is arguments_are)
    ∙ sym (map_more _ _ i d less)

-- the name of a row is that of what the parser reads of it
formed-id : (how : Form) (rule : Rule) → (formed how rule).id ≡ rule.id
formed-id form.Operand rule = refl
formed-id form.Operands rule = refl
formed-id form.Option rule = refl
formed-id (form.Default value) rule = refl
formed-id form.Flag rule = refl

pub row_name : (row : ArgumentRow) (rule : Rule) → rule_in row ≡ rule → row.name.now ≡ rule.id
row_name row rule same = sym (formed-id _ _) ∙ ap (λ r. r.id) same
