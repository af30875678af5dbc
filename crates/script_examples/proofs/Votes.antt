-- How protocols are voted: whole transcripts.
use Rattle.std.specs.Prelude.{◌≡◌, codes}
use Rattle.std.proofs.Common.{refl}
use Rattle.world_model.specs.Play.{transcript}
use Rattle.script_examples.specs.Opens.{all_opens}

pub votes_late_default_reject : transcript (codes "") (codes "mode fixed\nnode 1\nbegin\nclient 1 a -\njoin a db 1 default=reject limit=3\nflow\nstate a db n red\nflow\ntick 1\ntick 1\ntick 1\n") ≡ codes "up 1 1\nin 1 1.1.1 1.1\nasked 1.1.1.1 1 db join\nput 1 1.1.1 db 0 once join 1.1.1.1 default=reject limit=3\nheard 1.1.1.1 1.1.1 db 0 once-join 1.1.1.1 =\nasked 1.1.1.1 2 db state\nput 1 1.1.1 db 1 begin state 1.1.1.1/2 =red\nheard 1.1.1.1 1.1.1 db 1 begin-state 1.1.1.1 =\nput 1 1.1.1 db 2 reject 1.1.1/1 1 1.1.1.1=LR\nheard 1.1.1.1 1.1.1 db 2 reject 1.1.1.1 =\n"
unfolding all_opens
votes_late_default_reject = refl

pub votes_n_phase_join_and_leave : transcript (codes "") (codes "mode fixed\nnode 1\nbegin\nclient 1 a A\njoin a db 7 phases=n\nflow\nleave a db n\nflow\n") ≡ codes "up 1 1\nin 1 1.1.1 1.1\nasked 1.1.7.1 1 db join\nput 1 1.1.1 db 0 begin join 1.1.7.1 phases=n\nheard 1.1.7.1 1.1.1 db 0 begin-join - =\ncast 1.1.7.1 1.1.1/0 1 A\nput 1 1.1.1 db 1 approve 1.1.1/0 1 1.1.7.1=A -\nheard 1.1.7.1 1.1.1 db 1 approve 1.1.7.1 =\nasked 1.1.7.1 2 db leave\nput 1 1.1.1 db 2 begin leave 1.1.7.1/2\nheard 1.1.7.1 1.1.1 db 2 begin-leave 1.1.7.1 =\nput 1 1.1.1 db 3 approve 1.1.1/2 1 - -\nheard 1.1.7.1 1.1.1 db 3 approve - =\n"
unfolding all_opens
votes_n_phase_join_and_leave = refl

pub votes_no_limit_waits : transcript (codes "") (codes "mode fixed\nnode 1\nbegin\nclient 1 a -\njoin a db 1\nflow\nstate a db n red\nrun 50\n") ≡ codes "up 1 1\nin 1 1.1.1 1.1\nasked 1.1.1.1 1 db join\nput 1 1.1.1 db 0 once join 1.1.1.1\nheard 1.1.1.1 1.1.1 db 0 once-join 1.1.1.1 =\nasked 1.1.1.1 2 db state\nput 1 1.1.1 db 1 begin state 1.1.1.1/2 =red\nheard 1.1.1.1 1.1.1 db 1 begin-state 1.1.1.1 =\n"
unfolding all_opens
votes_no_limit_waits = refl

pub votes_rejected_join : transcript (codes "") (codes "mode fixed\nnode 1\nbegin\nclient 1 a -\nclient 1 b A\njoin a db 1 phases=n\nflow\nvote a db A\nflow\njoin b db 2 phases=n\nflow\nvote a db R\nflow\n") ≡ codes "up 1 1\nin 1 1.1.1 1.1\nasked 1.1.1.1 1 db join\nput 1 1.1.1 db 0 begin join 1.1.1.1 phases=n\nheard 1.1.1.1 1.1.1 db 0 begin-join - =\ncast 1.1.1.1 1.1.1/0 1 A\nput 1 1.1.1 db 1 approve 1.1.1/0 1 1.1.1.1=A -\nheard 1.1.1.1 1.1.1 db 1 approve 1.1.1.1 =\nasked 1.1.2.2 2 db join\nput 1 1.1.1 db 2 begin join 1.1.2.2 phases=n\nheard 1.1.1.1 1.1.1 db 2 begin-join 1.1.1.1 =\nheard 1.1.2.2 1.1.1 db 2 begin-join 1.1.1.1 =\ncast 1.1.2.2 1.1.1/2 1 A\ncast 1.1.1.1 1.1.1/2 1 R\nput 1 1.1.1 db 3 reject 1.1.1/2 1 1.1.1.1=R,1.1.2.2=A\nheard 1.1.1.1 1.1.1 db 3 reject 1.1.1.1 =\nheard 1.1.2.2 1.1.1 db 3 reject 1.1.1.1 =\n"
unfolding all_opens
votes_rejected_join = refl

pub votes_session_refusals : transcript (codes "") (codes "mode fixed\nnode 1\nbegin\nclient 1 a -\nclient 1 a A\nvote a db A\njoin a ggggggggggggggggggggggggggggggggg 1\njoin a HostMembership 1\njoin a db 1 limit=10001\njoin a db 1\nleave a db 1\nflow\njoin a db 2\nstate a db 1 vvvvvvvvvvvvvvvvvvvvvvvvvvvvvvvvvvvvvvvvvvvvvvvvvvvvvvvvvvvvvvvvvvvvvvvvvvvvvvvvvvvvvvvvvvvvvvvvvvvvvvvvvvvvvvvvvvvvvvvvvvvvvvvvvvvvvvvvvvvvvvvvvvvvvvvvvvvvvvvvvvvvvvvvvvvvvvvvvvvvvvvvvvvvvvvvvvvvvvvvvvvvvvvvvvvvvvvvvvvvvvvvvvvvvvvvvvvvvvvvvvvvvvvvvvvvvvvvv\nmessage a db 1 mmmmmmmmmmmmmmmmmmmmmmmmmmmmmmmmmmmmmmmmmmmmmmmmmmmmmmmmmmmmmmmmmmmmmmmmmmmmmmmmmmmmmmmmmmmmmmmmmmmmmmmmmmmmmmmmmmmmmmmmmmmmmmmmmmmmmmmmmmmmmmmmmmmmmmmmmmmmmmmmmmmmmmmmmmmmmmmmmmmmmmmmmmmmmmmmmmmmmmmmmmmmmmmmmmmmmmmmmmmmmmmmmmmmmmmmmmmmmmmmmmmmmmmmmmmmmmmmmmmmmmmmmmmmmmmmmmmmmmmmmmmmmmmmmmmmmmmmmmmmmmmmmmmmmmmmmmmmmmmmmmmmmmmmmmmmmmmmmmmmmmmmmmmmmmmmmmmmmmmmmmmmmmmmmmmmmmmmmmmmmmmmmmmmmmmmmmmmmmmmmmmmmmmmmmmmmmmmmmmmmmmmmmmmmmmmmmmmmmmmmmmmmmmmmmmmmmmmmmmmmmmmmmmmmmmmmmmmmmmmmmmmmmmmmmmmmmmmmmmmmmmmmmmmmmmmmmmmmmmmmmmmmmmmmmmmmmmmmmmmmmmmmmmmmmmmmmmmmmmmmmmmmmmmmmmmmmmmmmmmmmmmmmmmmmmmmmmmmmmmmmmmmmmmmmmmmmmmmmmmmmmmmmmmmmmmmmmmmmmmmmmmmmmmmmmmmmmmmmmmmmmmmmmmmmmmmmmmmmmmmmmmmmmmmmmmmmmmmmmmmmmmmmmmmmmmmmmmmmmmmmmmmmmmmmmmmmmmmmmmmmmmmmmmmmmmmmmmmmmmmmmmmmmmmmmmmmmmmmmmmmmmmmmmmmmmmmmmmmmmmmmmmmmmmmmmmmmmmmmmmmmmmmmmmmmmmmmmmmmmmmmmmmmmmmmmmmmmmmmmmmmmmmmmmmmmmmmmmmmmmmmmmmmmmmmmmmmmmmmmmmmmmmmmmmmmmmmmmmmmmmmmmmmmmmmmmmmmmmmmmmmmmmmmmmmmmmmmmmmmmmmmmmmmmmmmmmmmmmmmmmmmmmmmmmmmmmmmmmmmmmmmmmmmmmmmmmmmmmmmmmmmm\nstate a db n x\nflow\nvote a db A\nvote a db A\n") ≡ codes "up 1 1\nin 1 1.1.1 1.1\nrefused 1.a EXISTS\nrefused 1.a BAD_MEMBER_TOKEN\nrefused 1.a NAME_TOO_LONG\nrefused 1.a BAD_PARAMETER name\nrefused 1.a BAD_GROUP_ATTRIBUTES limit\nasked 1.1.1.1 1 db join\nrefused 1.a COLLIDE 1\nput 1 1.1.1 db 0 once join 1.1.1.1\nheard 1.1.1.1 1.1.1 db 0 once-join 1.1.1.1 =\nrefused 1.a EXISTS\nrefused 1.a BAD_PARAMETER value\nrefused 1.a BAD_PARAMETER message\nasked 1.1.1.1 2 db state\nput 1 1.1.1 db 1 begin state 1.1.1.1/2 =x\nheard 1.1.1.1 1.1.1 db 1 begin-state 1.1.1.1 =\ncast 1.1.1.1 1.1.1/1 1 A\nrefused 1.a VOTE_NOT_EXPECTED\n"
unfolding all_opens
votes_session_refusals = refl

pub votes_value_in_a_vote : transcript (codes "") (codes "mode fixed\nnode 1\nbegin\nclient 1 a C=blue,A\nclient 1 b A\njoin a db 1\njoin b db 2\nflow\nmessage a db n hi\nflow\n") ≡ codes "up 1 1\nin 1 1.1.1 1.1\nasked 1.1.1.1 1 db join\nasked 1.1.2.2 2 db join\nput 1 1.1.1 db 0 once join 1.1.1.1\nheard 1.1.1.1 1.1.1 db 0 once-join 1.1.1.1 =\nput 1 1.1.1 db 1 once join 1.1.2.2\nheard 1.1.1.1 1.1.1 db 1 once-join 1.1.1.1,1.1.2.2 =\nheard 1.1.2.2 1.1.1 db 1 once-join 1.1.1.1,1.1.2.2 =\nasked 1.1.1.1 3 db message\nput 1 1.1.1 db 2 begin message 1.1.1.1/3 =hi\nheard 1.1.1.1 1.1.1 db 2 begin-message 1.1.1.1,1.1.2.2 =\ncast 1.1.1.1 1.1.1/2 1 C=blue\nheard 1.1.2.2 1.1.1 db 2 begin-message 1.1.1.1,1.1.2.2 =\ncast 1.1.2.2 1.1.1/2 1 A\nput 1 1.1.1 db 3 phase 1.1.1/2 1 1.1.1.1=C,1.1.2.2=A =blue\nheard 1.1.1.1 1.1.1 db 3 phase 1.1.1.1,1.1.2.2 =\ncast 1.1.1.1 1.1.1/2 2 A\nheard 1.1.2.2 1.1.1 db 3 phase 1.1.1.1,1.1.2.2 =\ncast 1.1.2.2 1.1.1/2 2 A\nput 1 1.1.1 db 4 approve 1.1.1/2 2 1.1.1.1=A,1.1.2.2=A -\nheard 1.1.1.1 1.1.1 db 4 approve 1.1.1.1,1.1.2.2 =blue\nheard 1.1.2.2 1.1.1 db 4 approve 1.1.1.1,1.1.2.2 =blue\n"
unfolding all_opens
votes_value_in_a_vote = refl

pub level_two_late_is_announced : transcript (codes "") (codes "mode fixed\nnode 1\nlevel 1 1\nbegin\nclient 1 a -\njoin a db 1 default=reject limit=3\nflow\nstate a db n red\nflow\ntick 1\ntick 1\ntick 1\n") ≡ codes "up 1 1\nin 1 1.1.1 1.1\nasked 1.1.1.1 1 db join\nput 1 1.1.1 db 0 once join 1.1.1.1 default=reject limit=3\nheard 1.1.1.1 1.1.1 db 0 once-join 1.1.1.1 =\nasked 1.1.1.1 2 db state\nput 1 1.1.1 db 1 begin state 1.1.1.1/2 =red\nheard 1.1.1.1 1.1.1 db 1 begin-state 1.1.1.1 =\nput 1 1.1.1 db 2 late 1.1.1/1 1 1.1.1.1\nheard 1.1.1.1 1.1.1 db 2 late 1.1.1.1 =\nput 1 1.1.1 db 3 reject 1.1.1/1 1 1.1.1.1=LR\nheard 1.1.1.1 1.1.1 db 3 reject 1.1.1.1 =\n"
unfolding all_opens
level_two_late_is_announced = refl

pub level_two_longer_values : transcript (codes "") (codes "mode asked\nnode 1\nnode 2\nlevel 1 1\nlevel 2 1\nbegin\nstart 1\nstart 2\nclient 1 a A\njoin a db 1\nflow\nstate a db 1 vvvvvvvvvvvvvvvvvvvvvvvvvvvvvvvvvvvvvvvvvvvvvvvvvvvvvvvvvvvvvvvvvvvvvvvvvvvvvvvvvvvvvvvvvvvvvvvvvvvvvvvvvvvvvvvvvvvvvvvvvvvvvvvvvvvvvvvvvvvvvvvvvvvvvvvvvvvvvvvvvvvvvvvvvvvvvvvvvvvvvvvvvvvvvvvvvvvvvvvvvvvvvvvvvvvvvvvvvvvvvvvvvvvvvvvvvvvvvvvvvvvvvvvvvvvvvvvvv\nask 1 1 2\nflow\nstate a db 1 vvvvvvvvvvvvvvvvvvvvvvvvvvvvvvvvvvvvvvvvvvvvvvvvvvvvvvvvvvvvvvvvvvvvvvvvvvvvvvvvvvvvvvvvvvvvvvvvvvvvvvvvvvvvvvvvvvvvvvvvvvvvvvvvvvvvvvvvvvvvvvvvvvvvvvvvvvvvvvvvvvvvvvvvvvvvvvvvvvvvvvvvvvvvvvvvvvvvvvvvvvvvvvvvvvvvvvvvvvvvvvvvvvvvvvvvvvvvvvvvvvvvvvvvvvvvvvvvv\n") ≡ codes "up 1 1\nin 1 1.1.1 1.1\nup 2 1\nin 2 1.2.1 2.1\nasked 1.1.1.1 1 db join\nput 1 1.1.1 db 0 once join 1.1.1.1\nheard 1.1.1.1 1.1.1 db 0 once-join 1.1.1.1 =\nasked 1.1.1.1 2 db state\nin 1 2.1.1 1.1,2.1\nbase 1 2.1.1 db 1.1.1 1 1.1.1.1 = - -\nin 2 2.1.1 1.1,2.1\nbase 2 2.1.1 db 1.1.1 1 1.1.1.1 = - -\nput 1 2.1.1 db 0 once state 1.1.1.1/2 =vvvvvvvvvvvvvvvvvvvvvvvvvvvvvvvvvvvvvvvvvvvvvvvvvvvvvvvvvvvvvvvvvvvvvvvvvvvvvvvvvvvvvvvvvvvvvvvvvvvvvvvvvvvvvvvvvvvvvvvvvvvvvvvvvvvvvvvvvvvvvvvvvvvvvvvvvvvvvvvvvvvvvvvvvvvvvvvvvvvvvvvvvvvvvvvvvvvvvvvvvvvvvvvvvvvvvvvvvvvvvvvvvvvvvvvvvvvvvvvvvvvvvvvvvvvvvvvvv\nheard 1.1.1.1 2.1.1 db 0 once-state 1.1.1.1 =vvvvvvvvvvvvvvvvvvvvvvvvvvvvvvvvvvvvvvvvvvvvvvvvvvvvvvvvvvvvvvvvvvvvvvvvvvvvvvvvvvvvvvvvvvvvvvvvvvvvvvvvvvvvvvvvvvvvvvvvvvvvvvvvvvvvvvvvvvvvvvvvvvvvvvvvvvvvvvvvvvvvvvvvvvvvvvvvvvvvvvvvvvvvvvvvvvvvvvvvvvvvvvvvvvvvvvvvvvvvvvvvvvvvvvvvvvvvvvvvvvvvvvvvvvvvvvvvv\nput 2 2.1.1 db 0 once state 1.1.1.1/2 =vvvvvvvvvvvvvvvvvvvvvvvvvvvvvvvvvvvvvvvvvvvvvvvvvvvvvvvvvvvvvvvvvvvvvvvvvvvvvvvvvvvvvvvvvvvvvvvvvvvvvvvvvvvvvvvvvvvvvvvvvvvvvvvvvvvvvvvvvvvvvvvvvvvvvvvvvvvvvvvvvvvvvvvvvvvvvvvvvvvvvvvvvvvvvvvvvvvvvvvvvvvvvvvvvvvvvvvvvvvvvvvvvvvvvvvvvvvvvvvvvvvvvvvvvvvvvvvvv\nasked 1.1.1.1 3 db state\n"
unfolding all_opens
level_two_longer_values = refl
