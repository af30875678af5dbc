-- What holds of the tallies of each group's lines holds of the run's records.
use Rattle.proposal_core.specs.declared.entry.Entry.TheVariants.{Approve}
use Rattle.run_safety.specs.RunTallies.{GroupsCloseByTally}
use Rattle.run_safety.proofs.SightLaws.{put_seen}
use Rattle.run_safety.proofs.TallyLaw.{all_approve}

pub run_tallied : GroupsCloseByTally
run_tallied o h safe =
    record {
      tallied = λ n v g i e a. (safe g).tallied n v i e (put_seen n v g i e h a);
      approved = λ n v g i c a. all_approve c.rows ((safe g).tallied n v i (Approve c) (put_seen n v g i (Approve c) h a));
    }
