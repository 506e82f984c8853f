-- A driven layer as the calls above speak of it. Assumes nothing.
use Rattle.models.specs.Program.{Program}
use Rattle.table.specs.Table.{program_of}
use Rattle.accepted.specs.declared.Driving.{Driving}

-- the program that counts at the layer, with the layers of the set switched off
abbrev pub driven_program : Driving → Program
driven_program d = program_of d.book.now d.layer d.off
