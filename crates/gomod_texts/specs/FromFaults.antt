-- The reports that faults of the libraries become.
use Rattle.gm_file.specs.declared.misreading.BytesFault.{BytesFault}
use Rattle.gm_file.specs.declared.misreading.BytesFault.TheVariants as bytes
use Rattle.gm_store_sums.specs.declared.sum_table.SumFault.{SumFault}
use Rattle.gm_store_sums.specs.declared.sum_table.SumFault.TheVariants as sums
use Rattle.gm_graph_cache.specs.declared.cache.load_fault.LoadFault.{LoadFault}
use Rattle.gm_graph_cache.specs.declared.cache.load_fault.LoadFault.TheVariants as load
use Rattle.gomod_texts.specs.declared.reports.report.Report.{Report}
use Rattle.gomod_texts.specs.declared.reports.report.Report.TheVariants as report

-- the report of a main file whose bytes can't be read
abbrev pub report_by_bytes : BytesFault → Report
report_by_bytes bytes.NoMemory = report.NoMemory
report_by_bytes (bytes.Misread number kind) = report.Main number kind

-- the report of an invalid go.sum
abbrev pub report_by_sums : SumFault → Report
report_by_sums sums.NoMemory = report.NoMemory
report_by_sums sums.TooMany = report.LongSums
report_by_sums (sums.BadSum number) = report.Sums number

-- the report when loading stops early
abbrev pub report_by_load : LoadFault → Report
report_by_load load.NoMemory = report.NoMemory
report_by_load load.TooMany = report.TooMany
report_by_load (load.Device name) = report.Device name
