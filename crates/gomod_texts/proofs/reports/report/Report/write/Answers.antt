use Rattle.gomod_texts.proofs.reports.report.Report.write.Goals as goal

pub returns-in-NoMemory : goal.returns-in-NoMemory
returns-in-NoMemory g c = rw c.in-NoMemory.is c.write_line.ensures

pub returns-in-LongSums : goal.returns-in-LongSums
returns-in-LongSums g c = rw c.in-LongSums.is c.write_line-in-LongSums.ensures

pub returns-in-TooMany : goal.returns-in-TooMany
returns-in-TooMany g c = rw c.in-TooMany.is c.write_line-in-TooMany.ensures

pub returns-in-Device : goal.returns-in-Device
returns-in-Device g c = rw c.in-Device.is c.write_device.ensures

pub returns-in-Unreadable : goal.returns-in-Unreadable
returns-in-Unreadable g c = rw c.in-Unreadable.is c.write_unreadable.ensures
