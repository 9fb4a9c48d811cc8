-- The invariant of a main file: how its fields relate to the lines of its document.
use Rattle.std.specs.Prelude.{◌≡◌, List, Some, None}
use Rattle.gm_syntax_words.specs.Tokens.{Placed}
use Rattle.gm_syntax.specs.Document.{Line}
use Rattle.gm_syntax.specs.LineViews.{plain_lines}
use Rattle.gm_file.specs.declared.replace.Interval.{Interval}
use Rattle.gm_file.specs.Directives.{Strict}
use Rattle.gm_file.specs.Faults.{fault_of}
use Rattle.gm_file.specs.Fields.{module_of, retracts_of}
use Rattle.gm_file.specs.Main.{Main, main_of}
use Rattle.gm_file.specs.Views.{interval_views}

-- strict reading of the lines has no fault, and this is what they say
pub record AreMainFields (lines : List (Line Placed)) (main : Main) (retracts : List Interval) : Type 0 where
  pub sound : fault_of Strict (plain_lines lines) ≡ None
  pub path_is : module_of Strict (plain_lines lines) ≡ Some main.path
  pub main_is : main_of lines ≡ main
  pub retracts_are : retracts_of (plain_lines lines) ≡ interval_views retracts
