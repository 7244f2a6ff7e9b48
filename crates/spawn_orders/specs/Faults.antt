use Rattle.rayon_words.specs.declared.refusal.CallError.{CallError}
use Rattle.spawn_orders.specs.declared.fault.OrderFault.{OrderFault}
use Rattle.spawn_orders.specs.declared.fault.OrderFault.TheVariants.{Refused, Foreign, Missing}

-- why there is no list where a call failed so: the fault that it met, or that it was refused or has lost its answer
abbrev pub fault_of : CallError OrderFault (Unit {0}) → OrderFault
fault_of (CallError.Fault f) = f
fault_of (CallError.Refused r b) = Refused r
fault_of CallError.Foreign = Foreign
fault_of CallError.Missing = Missing
