use Rattle.page_commands.proofs.Versions.{latest_files_are_read}
use Rattle.page_commands.proofs.latest_files_are_read.Goals as goal

pub returns : goal.returns
returns c = latest_files_are_read
