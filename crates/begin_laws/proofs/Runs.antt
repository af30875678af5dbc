-- Every run of events that may happen is one of scenes.
use Rattle.std.proofs.Common.{subst}
use Rattle.world_safety.proofs.Runs.{every_run_is_reached}
use Rattle.begin_laws.specs.Begins.{EntriesBeginAsMeant}
use Rattle.begin_laws.specs.Runs.{EveryEntryBeginsAsMeant}
use Rattle.begin_laws.proofs.Law.{entries_of_scenes_begin_as_meant}

pub every_entry_begins_as_meant : EveryEntryBeginsAsMeant
every_entry_begins_as_meant c es may =
    let run = every_run_is_reached c es may in subst EntriesBeginAsMeant run.5 (entries_of_scenes_begin_as_meant c run.0 run.3)
