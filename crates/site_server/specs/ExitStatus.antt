-- The exit status of the program, this project's own.
use Rattle.std.specs.Prelude.{ℕ}
use Rattle.site_server.specs.declared.connection.End.{End}
use Rattle.site_server.specs.declared.connection.End.TheVariants.{Closed, ReadFault as Unread, WriteFault as Unwritten, Memory as OutOfMemory}
use Rattle.session_engines.specs.declared.open_fault.StartFault.{StartFault}
use Rattle.session_engines.specs.declared.open_fault.StartFault.TheVariants.{Keeper as NoStore, Full as NoRoom, Memory as NoMemory}
use Rattle.site_server.specs.declared.status.Status.{Status}
use Rattle.site_server.specs.declared.status.Status.TheVariants.{BadSettings, Done, Full, KeeperFault, Memory, ReadFault, Refused, Usage, WriteFault}

-- by how a run ends
abbrev pub exit_status : Status → ℕ
exit_status Done = 0
exit_status Usage = 2
exit_status BadSettings = 3
exit_status ReadFault = 4
exit_status WriteFault = 5
exit_status KeeperFault = 6
exit_status Memory = 7
exit_status Refused = 9
exit_status Full = 10

-- how a run ends that served one connection
abbrev pub status_of : End → Status
status_of Closed = Done
status_of Unread = ReadFault
status_of Unwritten = WriteFault
status_of OutOfMemory = Memory

-- how a run ends whose store couldn't be opened
abbrev pub start_status : StartFault → Status
start_status NoStore = KeeperFault
start_status NoRoom = Full
start_status NoMemory = Memory
