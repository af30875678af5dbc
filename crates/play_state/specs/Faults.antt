-- Why a play ends early.
use Rattle.play_state.specs.declared.world_fault.WorldFault.{WorldFault}
use Rattle.play_state.specs.declared.world_fault.WorldFault.TheVariants as world_fault
use Rattle.play_state.specs.declared.play_fault.PlayFault.{PlayFault}
use Rattle.play_state.specs.declared.play_fault.PlayFault.TheVariants as play_fault
use Rattle.play_state.specs.declared.play_fault.PutFault.{PutFault}
use Rattle.play_state.specs.declared.play_fault.PutFault.TheVariants as put_fault

abbrev pub fault_of_world : WorldFault → PlayFault
fault_of_world world_fault.NoMemory = play_fault.NoMemory
fault_of_world (world_fault.TooMuchKept n) = play_fault.Kept n

abbrev pub fault_of_put : PutFault → PlayFault
fault_of_put put_fault.WriteFault = play_fault.WriteFault
fault_of_put put_fault.NoMemory = play_fault.NoMemory
