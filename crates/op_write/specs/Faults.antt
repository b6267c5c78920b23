-- What becomes of a port's errors.
use Rattle.lake_outside.specs.declared.errors.PortError.{PortError}
use Rattle.lake_outside.specs.declared.errors.PortError.TheVariants as port
use Rattle.op_write.specs.declared.faults.WriteFault.{WriteFault}
use Rattle.op_write.specs.declared.faults.WriteFault.TheVariants.{StoreFault, NoMemory}

abbrev pub fault_of : PortError → WriteFault
fault_of port.Failed = StoreFault
fault_of port.NoMemory = NoMemory
