use Rattle.std.proofs.Common.{ap}
use Rattle.gm_store.specs.FoldersOnDisk.{main_folder, proxy_folders, system_of}
use Rattle.gm_store.proofs.DiskStores.{same_answers}
use Rattle.gm_store.proofs.fallback.on_disk.FallbackStore+FoldersOnDisk+S+K.new.Goals as goal

pub returns-clause-answers : goal.returns-clause-answers
returns-clause-answers g c = λ name reply stated.
    same_answers g.S.FileSystem.may_open _ _ _ _ _ _ _ _ (ap system_of c.over.ensures.folders) (ap main_folder c.over.ensures.folders)
    (ap proxy_folders c.over.ensures.folders) c.over.ensures.marks name reply stated
