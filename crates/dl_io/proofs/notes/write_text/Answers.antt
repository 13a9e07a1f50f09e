use Rattle.dl_io.proofs.notes.write_text.Goals as goal

pub returns-in-BadSchedule : goal.returns-in-BadSchedule
returns-in-BadSchedule g c = rw c.in-BadSchedule.is c.write_two_numbers.ensures

pub returns-in-ReadFault : goal.returns-in-ReadFault
returns-in-ReadFault g c = rw c.in-ReadFault.is c.write_all-in-ReadFault.ensures

pub returns-in-DeviceFault : goal.returns-in-DeviceFault
returns-in-DeviceFault g c = rw c.in-DeviceFault.is (rw c.from.ensures at c.write_word_number-in-DeviceFault.ensures)

pub returns-in-NotInitialised : goal.returns-in-NotInitialised
returns-in-NotInitialised g c = rw c.in-NotInitialised.is c.write_all-in-NotInitialised.ensures

pub returns-in-Unavailable : goal.returns-in-Unavailable
returns-in-Unavailable g c =
    rw c.in-Unavailable.is (rw (c.from-in-Unavailable.ensures, c.from-in-Unavailable-2.ensures) at c.write_two_numbers-in-Unavailable.ensures)

pub returns-in-Lacking : goal.returns-in-Lacking
returns-in-Lacking g c = rw c.in-Lacking.is c.write_two_numbers-in-Lacking.ensures
