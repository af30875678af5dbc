use Rattle.table_client.proofs.FollowingLaws.{copies_follow}
use Rattle.table_client.proofs.laws.copies_follow.Goals as goal

pub returns : goal.returns
returns c = copies_follow
