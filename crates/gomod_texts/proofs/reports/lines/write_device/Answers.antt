use Rattle.std.proofs.Common.{codes, string_bytes}
use Rattle.gomod_texts.proofs.ReportLines.{module_last, two_pieces}
use Rattle.gomod_texts.proofs.reports.lines.write_device.Goals as goal

pub returns-in-Mod : goal.returns-in-Mod
returns-in-Mod g c =
    rw (c.in-Mod.is, module_last (codes "gomod: device at ") c.in-Mod.path c.in-Mod.version)
    (rw (c.as_str.ensures.text, c.as_str-in-Mod.ensures.text) at c.write_line.ensures)

pub returns-in-Folder : goal.returns-in-Folder
returns-in-Folder g c =
    rw (c.in-Folder.is, two_pieces (codes "gomod: device at ") (string_bytes c.in-Folder.text))
    (rw c.as_str-in-Folder.ensures.value at c.write_line-in-Folder.ensures)

pub returns-in-List : goal.returns-in-List
returns-in-List g c = rw c.in-List.is (rw c.as_str-in-List.ensures.text at c.write_line-in-List.ensures)
