-- Random walks in mode fixed: whole transcripts.
use Rattle.std.specs.Prelude.{◌≡◌, codes}
use Rattle.std.proofs.Common.{refl}
use Rattle.world_model.specs.Play.{transcript}
use Rattle.script_examples.specs.Opens.{all_opens}

pub fixed_level_01 : transcript (codes "") (codes "mode fixed\nnode 1\nnode 2\nnode 3\nadapter 1 1 10.1.0.9\nadapter 1 2 10.2.0.10\nadapter 1 4 10.4.0.12\nadapter 2 1 10.1.0.16\nadapter 2 2 10.2.0.17\nadapter 2 3 10.3.0.18\nadapter 3 1 10.1.0.23\nadapter 3 2 10.2.0.24\nlevel 1 1\nlevel 2 1\nlevel 3 2\nbegin\nclient 1 c1 A\njoin c1 z 1\nclient 1 c2 A\njoin c2 z 2\nflow\nclient 3 c3 A\njoin c3 db 3 batch=none phases=n source=disk\nflow\nclient 3 c4 A\njoin c4 db 3 batch=none phases=n source=disk\nflow\nclient 1 c5 -,R,C\njoin c5 a 1 phases=n\nflow\nclient 2 c6 A\njoin c6 z 2\nflow\nclient 3 c7 A\njoin c7 disk 2 limit=2 default=reject phases=n\nflow\nflow\nleave c6 z 1\njoin c7 db 1 batch=none phases=n source=disk\nrun 2\nattrs c7 db n batch=none phases=n source=disk\ndrop 1 3\ndeliver 3 1 17\ndeliver 3 1 17\ndeliver 3 1 17\ndeliver 1 1 13\ndeliver 3 3 20\ndeliver 3 1 20\nclient 2 c8 R,A\njoin c8 z 2 limit=1 phases=1 batch=joins\ndrop 2 1\nmessage c7 db 1 hi\nflow\nflow\nstate c8 z n up\nflow\nrun 2\nstate c2 z n wwwwwwwwwwwwwwwwwwwwwwwwwwwwwwwwwwwwwwwwwwwwwwwwwwwwwwwwwwwwwwwwwwwwwwwwwwwwwwwwwwwwwwwwwwwwwwwwwwwwwwwwwwwwwwwwwwwwwwwwwwwwwwwwwwwwwwwwwwwwwwwwwwwwwwwwwwwwwwwwwwwwwwwwwwwwwwwwwwwwwwwwwwwwwwwwwwwwwwwwwwwwwwwwwwwwwwwwwwwwwwwwwwwwwwwwwwwwwwwwwwwwwwwwwwwwwwwwwwwwwwwwwwwwwwwwwwwwwwwwwwwwwwwwwwwwwwwwwwww\nflow\ndrop 2 1\nrun 3\nrun 3\ndeliver 2 1 9\ndeliver 1 1 19\ndeliver 3 2 13\ndeliver 2 2 21\ndeliver 3 1 8\ndeliver 3 1 6\nflow\n") ≡ codes "up 1 1\nin 1 1.1.1 1.1,2.1,3.1\nup 2 1\nin 2 1.1.1 1.1,2.1,3.1\nup 3 1\nin 3 1.1.1 1.1,2.1,3.1\nasked 1.1.1.1 1 z join\nasked 1.1.2.2 2 z join\nput 1 1.1.1 z 0 once join 1.1.1.1\nheard 1.1.1.1 1.1.1 z 0 once-join 1.1.1.1 =\nput 1 1.1.1 z 1 once join 1.1.2.2\nheard 1.1.1.1 1.1.1 z 1 once-join 1.1.1.1,1.1.2.2 =\nheard 1.1.2.2 1.1.1 z 1 once-join 1.1.1.1,1.1.2.2 =\nput 2 1.1.1 z 0 once join 1.1.1.1\nput 3 1.1.1 z 0 once join 1.1.1.1\nput 2 1.1.1 z 1 once join 1.1.2.2\nput 3 1.1.1 z 1 once join 1.1.2.2\nasked 3.1.3.1 1 db join\ntold 3.1.3.1 1 NO_SOURCE_GROUP_PROVIDER 0\nasked 3.1.3.2 2 db join\ntold 3.1.3.2 2 NO_SOURCE_GROUP_PROVIDER 0\nasked 1.1.1.3 3 a join\nput 1 1.1.1 a 0 begin join 1.1.1.3 phases=n\nheard 1.1.1.3 1.1.1 a 0 begin-join - =\nput 2 1.1.1 a 0 begin join 1.1.1.3 phases=n\nput 3 1.1.1 a 0 begin join 1.1.1.3 phases=n\nasked 2.1.2.1 1 z join\nput 1 1.1.1 z 2 once join 2.1.2.1\nheard 1.1.1.1 1.1.1 z 2 once-join 1.1.1.1,1.1.2.2,2.1.2.1 =\nheard 1.1.2.2 1.1.1 z 2 once-join 1.1.1.1,1.1.2.2,2.1.2.1 =\nput 2 1.1.1 z 2 once join 2.1.2.1\nheard 2.1.2.1 1.1.1 z 2 once-join 1.1.1.1,1.1.2.2,2.1.2.1 =\nput 3 1.1.1 z 2 once join 2.1.2.1\nasked 3.1.2.3 3 disk join\nput 1 1.1.1 disk 0 begin join 3.1.2.3 phases=n default=reject limit=2\nput 2 1.1.1 disk 0 begin join 3.1.2.3 phases=n default=reject limit=2\nput 3 1.1.1 disk 0 begin join 3.1.2.3 phases=n default=reject limit=2\nheard 3.1.2.3 1.1.1 disk 0 begin-join - =\ncast 3.1.2.3 1.1.1/0 1 A\nput 1 1.1.1 disk 1 approve 1.1.1/0 1 3.1.2.3=A -\nput 2 1.1.1 disk 1 approve 1.1.1/0 1 3.1.2.3=A -\nput 3 1.1.1 disk 1 approve 1.1.1/0 1 3.1.2.3=A -\nheard 3.1.2.3 1.1.1 disk 1 approve 3.1.2.3 =\nasked 2.1.2.1 2 z leave\nasked 3.1.1.4 4 db join\nput 1 1.1.1 z 3 once leave 2.1.2.1/2\nheard 1.1.1.1 1.1.1 z 3 once-leave 1.1.1.1,1.1.2.2 =\nheard 1.1.2.2 1.1.1 z 3 once-leave 1.1.1.1,1.1.2.2 =\nput 1 1.1.1 db 0 begin join 3.1.1.4 phases=n source=disk src=2\nput 2 1.1.1 z 3 once leave 2.1.2.1/2\nheard 2.1.2.1 1.1.1 z 3 once-leave 1.1.1.1,1.1.2.2 =\nput 3 1.1.1 z 3 once leave 2.1.2.1/2\nput 2 1.1.1 db 0 begin join 3.1.1.4 phases=n source=disk src=2\nput 3 1.1.1 db 0 begin join 3.1.1.4 phases=n source=disk src=2\nheard 3.1.1.4 1.1.1 db 0 begin-join - =\ncast 3.1.1.4 1.1.1/0 1 A\nput 1 1.1.1 db 1 approve 1.1.1/0 1 3.1.1.4=A -\nput 2 1.1.1 db 1 approve 1.1.1/0 1 3.1.1.4=A -\nput 3 1.1.1 db 1 approve 1.1.1/0 1 3.1.1.4=A -\nheard 3.1.1.4 1.1.1 db 1 approve 3.1.1.4 =\nasked 3.1.1.4 5 db attrs\nput 1 1.1.1 db 2 begin attrs 3.1.1.4/5 phases=n source=disk\nasked 2.1.2.3 3 z join\nrefused 3.c7 COLLIDE 5\nput 2 1.1.1 db 2 begin attrs 3.1.1.4/5 phases=n source=disk\nput 3 1.1.1 db 2 begin attrs 3.1.1.4/5 phases=n source=disk\nheard 3.1.1.4 1.1.1 db 2 begin-attrs 3.1.1.4 =\ncast 3.1.1.4 1.1.1/2 1 A\nput 1 1.1.1 db 3 approve 1.1.1/2 1 3.1.1.4=A -\nput 2 1.1.1 db 3 approve 1.1.1/2 1 3.1.1.4=A -\nput 3 1.1.1 db 3 approve 1.1.1/2 1 3.1.1.4=A -\nheard 3.1.1.4 1.1.1 db 3 approve 3.1.1.4 =\nrefused 2.c8 COLLIDE 3\ntold 2.1.2.3 3 BAD_GROUP_ATTRIBUTES\nrefused 1.c2 BAD_PARAMETER value\n"
unfolding all_opens
fixed_level_01 = refl

pub fixed_level_05 : transcript (codes "") (codes "mode fixed\nnode 2\nnode 15\nnode 25\nlevel 15 1\nlevel 25 1\ndomain 8\nbegin\nclient 25 c1 A=~\njoin c1 db 1 default=approve slimit=3 batch=none limit=3 phases=n source=disk sphases=n\nflow\nclient 25 c2 -,-,R\njoin c2 z 3 default=reject limit=3\nflow\nclient 15 c3 A\njoin c3 a 2 default=approve limit=5 phases=n\nflow\nclient 25 c4 A\njoin c4 a 1 default=approve limit=5 phases=n\nflow\nclient 2 c5 A\njoin c5 db 3 default=approve slimit=3 batch=none limit=3 phases=n source=disk sphases=n\nflow\nclient 25 c6 R\njoin c6 a 2 default=approve limit=5 phases=n\nflow\nflow\nstate c3 a n up\ndrop 15 2\nexpel c2 z 1 25.1.3.2\nexpel c4 a n 25.1.1.3 15.1.2.1\nrun 4\nrun 3\nstate c5 db n up\ndeliver 25 25 22\ndeliver 15 25 14\ndeliver 2 25 1\ndeliver 25 2 3\ndeliver 2 25 17\nvote c2 z C\njoin c4 disk 2 limit=0 phases=n\nclient 2 c7 A\njoin c7 db 2 default=approve slimit=3 batch=none limit=3 phases=n source=disk sphases=n\nattrs c4 disk n limit=0 phases=n\nrun 2\nmessage c4 disk 1 hi\nexpel c4 disk n 25.1.2.7\nmessage c2 z n ~\nrun 1\nclient 2 c7 C=blue%2C,A=blue%2C,R=vvvvvvvvvvvvvvvvvvvvvvvvvvvvvvvvvvvvvvvvvvvvvvvvvvvvvvvvvvvvvvvvvvvvvvvvvvvvvvvvvvvvvvvvvvvvvvvvvvvvvvvvvvvvvvvvvvvvvvvvvvvvvvvvvvvvvvvvvvvvvvvvvvvvvvvvvvvvvvvvvvvvvvvvvvvvvvvvvvvvvvvvvvvvvvvvvvvvvvvvvvvvvvvvvvvvvvvvvvvvvvvvvvvvvvvvvvvvvvvvvvvvvvvvvvvvvvvvvvvvvvvvvvvvvvvvvvvvvvvvvvvvvvvvvvvvvvvvvvvv\njoin c7 a 2 batch=none default=approve limit=3\nattrs c7 a 1 default=approve limit=5 phases=n\nrun 3\nsubscribe c3 a\nrun 2\nflow\nmessage c7 db 1 ~\nmessage c4 disk 1 x=1\nleave c7 a n\njoin c3 disk 2 limit=0 phases=n\nflow\nmessage c6 a 1 x=1\ndeliver 2 25 18\ndeliver 25 2 2\nrun 4\nstate c3 disk n red\nflow\ntick 2\nstate c4 disk n red\ndeliver 25 2 42\ndeliver 25 2 42\nstate c3 disk 1 ~\ndeliver 15 2 32\ndeliver 15 2 32\ndeliver 2 25 23\ndeliver 2 25 23\ndeliver 25 2 45\ndeliver 25 2 43\ndeliver 2 15 25\ndeliver 25 2 43\nrun 5\nshow 25 hagsvote\ntick 2\nrun 4\nflow\nrun 1\nstate c4 disk 1 wwwwwwwwwwwwwwwwwwwwwwwwwwwwwwwwwwwwwwwwwwwwwwwwwwwwwwwwwwwwwwwwwwwwwwwwwwwwwwwwwwwwwwwwwwwwwwwwwwwwwwwwwwwwwwwwwwwwwwwwwwwwwwwwwwwwwwwwwwwwwwwwwwwwwwwwwwwwwwwwwwwwwwwwwwwwwwwwwwwwwwwwwwwwwwwwwwwwwwwwwwwwwwwwwwwwwwwwwwwwwwwwwwwwwwwwwwwwwwwwwwwwwwwwwwwwwwwwwwwwwwwwwwwwwwwwwwwwwwwwwwwwwwwwwwwwwwwwwwww\nstate c4 disk n ~\nrun 5\nmessage c7 db n ~\nexpel c4 disk n 15.1.2.3\nsubscribe c7 HostMembership\ndeliver 25 2 53\ndeliver 25 2 53\ndeliver 25 2 53\ndeliver 25 2 53\ndeliver 25 2 53\ngoodbye c3\nmessage c4 disk n hi\nstate c4 disk n wwwwwwwwwwwwwwwwwwwwwwwwwwwwwwwwwwwwwwwwwwwwwwwwwwwwwwwwwwwwwwwwwwwwwwwwwwwwwwwwwwwwwwwwwwwwwwwwwwwwwwwwwwwwwwwwwwwwwwwwwwwwwwwwwwwwwwwwwwwwwwwwwwwwwwwwwwwwwwwwwwwwwwwwwwwwwwwwwwwwwwwwwwwwwwwwwwwwwwwwwwwwwwwwwwwwwwwwwwwwwwwwwwwwwwwwwwwwwwwwwwwwwwwwwwwwwwwwwwwwwwwwwwwwwwwwwwwwwwwwwwwwwwwwwwwwwwwwwwww\ndrop 2 15\nshow 15 hats\ngoodbye c4\nclient 15 c9 A\njoin c9 a 1 default=approve limit=5 phases=n\nattrs c9 a n default=approve limit=5 phases=n\n") ≡ codes "up 2 1\nin 2 1.2.1 2.1,15.1,25.1\nup 15 1\nin 15 1.2.1 2.1,15.1,25.1\nup 25 1\nin 25 1.2.1 2.1,15.1,25.1\nasked 25.1.1.1 1 db join\ntold 25.1.1.1 1 NO_SOURCE_GROUP_PROVIDER 0\nasked 25.1.3.2 2 z join\nput 2 1.2.1 z 0 once join 25.1.3.2 default=reject limit=3\nput 15 1.2.1 z 0 once join 25.1.3.2 default=reject limit=3\nput 25 1.2.1 z 0 once join 25.1.3.2 default=reject limit=3\nheard 25.1.3.2 1.2.1 z 0 once-join 25.1.3.2 =\nasked 15.1.2.1 1 a join\nput 2 1.2.1 a 0 begin join 15.1.2.1 phases=n limit=5\nput 15 1.2.1 a 0 begin join 15.1.2.1 phases=n limit=5\nheard 15.1.2.1 1.2.1 a 0 begin-join - =\ncast 15.1.2.1 1.2.1/0 1 A\nput 25 1.2.1 a 0 begin join 15.1.2.1 phases=n limit=5\nput 2 1.2.1 a 1 approve 1.2.1/0 1 15.1.2.1=A -\nput 15 1.2.1 a 1 approve 1.2.1/0 1 15.1.2.1=A -\nheard 15.1.2.1 1.2.1 a 1 approve 15.1.2.1 =\nput 25 1.2.1 a 1 approve 1.2.1/0 1 15.1.2.1=A -\nasked 25.1.1.3 3 a join\nput 2 1.2.1 a 2 begin join 25.1.1.3 phases=n limit=5\nput 15 1.2.1 a 2 begin join 25.1.1.3 phases=n limit=5\nheard 15.1.2.1 1.2.1 a 2 begin-join 15.1.2.1 =\ncast 15.1.2.1 1.2.1/2 1 A\nput 25 1.2.1 a 2 begin join 25.1.1.3 phases=n limit=5\nheard 25.1.1.3 1.2.1 a 2 begin-join 15.1.2.1 =\ncast 25.1.1.3 1.2.1/2 1 A\nput 2 1.2.1 a 3 approve 1.2.1/2 1 15.1.2.1=A,25.1.1.3=A -\nput 15 1.2.1 a 3 approve 1.2.1/2 1 15.1.2.1=A,25.1.1.3=A -\nheard 15.1.2.1 1.2.1 a 3 approve 15.1.2.1,25.1.1.3 =\nput 25 1.2.1 a 3 approve 1.2.1/2 1 15.1.2.1=A,25.1.1.3=A -\nheard 25.1.1.3 1.2.1 a 3 approve 15.1.2.1,25.1.1.3 =\nasked 2.1.3.1 1 db join\ntold 2.1.3.1 1 NO_SOURCE_GROUP_PROVIDER 0\nasked 25.1.2.4 4 a join\nput 2 1.2.1 a 4 begin join 25.1.2.4 phases=n limit=5\nput 15 1.2.1 a 4 begin join 25.1.2.4 phases=n limit=5\nheard 15.1.2.1 1.2.1 a 4 begin-join 15.1.2.1,25.1.1.3 =\ncast 15.1.2.1 1.2.1/4 1 A\nput 25 1.2.1 a 4 begin join 25.1.2.4 phases=n limit=5\nheard 25.1.1.3 1.2.1 a 4 begin-join 15.1.2.1,25.1.1.3 =\ncast 25.1.1.3 1.2.1/4 1 A\nheard 25.1.2.4 1.2.1 a 4 begin-join 15.1.2.1,25.1.1.3 =\ncast 25.1.2.4 1.2.1/4 1 R\nput 2 1.2.1 a 5 reject 1.2.1/4 1 15.1.2.1=A,25.1.1.3=A,25.1.2.4=R\nput 15 1.2.1 a 5 reject 1.2.1/4 1 15.1.2.1=A,25.1.1.3=A,25.1.2.4=R\nheard 15.1.2.1 1.2.1 a 5 reject 15.1.2.1,25.1.1.3 =\nput 25 1.2.1 a 5 reject 1.2.1/4 1 15.1.2.1=A,25.1.1.3=A,25.1.2.4=R\nheard 25.1.1.3 1.2.1 a 5 reject 15.1.2.1,25.1.1.3 =\nheard 25.1.2.4 1.2.1 a 5 reject 15.1.2.1,25.1.1.3 =\nasked 15.1.2.1 2 a state\nasked 25.1.3.2 5 z expel\nasked 25.1.1.3 6 a expel\nput 2 1.2.1 z 1 once expel 25.1.3.2/5 25.1.3.2\nput 2 1.2.1 a 6 begin expel 25.1.1.3/6 25.1.1.3,15.1.2.1\nput 2 1.2.1 a 7 approve 1.2.1/6 1 - -\nput 15 1.2.1 z 1 once expel 25.1.3.2/5 25.1.3.2\nput 25 1.2.1 z 1 once expel 25.1.3.2/5 25.1.3.2\nheard 25.1.3.2 1.2.1 z 1 once-expel - =\nput 15 1.2.1 a 6 begin expel 25.1.1.3/6 25.1.1.3,15.1.2.1\nheard 15.1.2.1 1.2.1 a 6 begin-expel 15.1.2.1,25.1.1.3 =\nput 25 1.2.1 a 6 begin expel 25.1.1.3/6 25.1.1.3,15.1.2.1\nheard 25.1.1.3 1.2.1 a 6 begin-expel 15.1.2.1,25.1.1.3 =\nput 15 1.2.1 a 7 approve 1.2.1/6 1 - -\nheard 15.1.2.1 1.2.1 a 7 approve - =\nput 25 1.2.1 a 7 approve 1.2.1/6 1 - -\nheard 25.1.1.3 1.2.1 a 7 approve - =\nrefused 2.c5 BAD_MEMBER_TOKEN\nrefused 25.c2 BAD_MEMBER_TOKEN\nasked 25.1.2.7 7 disk join\nasked 2.1.2.2 2 db join\nrefused 25.c4 COLLIDE 7\nput 2 1.2.1 disk 0 begin join 25.1.2.7 phases=n\nput 15 1.2.1 disk 0 begin join 25.1.2.7 phases=n\nput 25 1.2.1 disk 0 begin join 25.1.2.7 phases=n\nheard 25.1.2.7 1.2.1 disk 0 begin-join - =\ncast 25.1.2.7 1.2.1/0 1 A\ntold 2.1.2.2 2 NO_SOURCE_GROUP_PROVIDER 1\nput 2 1.2.1 disk 1 approve 1.2.1/0 1 25.1.2.7=A -\nput 15 1.2.1 disk 1 approve 1.2.1/0 1 25.1.2.7=A -\nput 25 1.2.1 disk 1 approve 1.2.1/0 1 25.1.2.7=A -\nheard 25.1.2.7 1.2.1 disk 1 approve 25.1.2.7 =\nasked 25.1.2.7 8 disk message\nrefused 25.c4 COLLIDE 8\nrefused 25.c2 BAD_MEMBER_TOKEN\nput 2 1.2.1 disk 2 once message 25.1.2.7/8 =hi\nput 15 1.2.1 disk 2 once message 25.1.2.7/8 =hi\nput 25 1.2.1 disk 2 once message 25.1.2.7/8 =hi\nheard 25.1.2.7 1.2.1 disk 2 once-message 25.1.2.7 =\nrefused 2.c7 EXISTS\nasked 2.1.2.3 3 a join\nrefused 2.c7 COLLIDE 3\nput 2 1.2.1 a 8 once join 2.1.2.3 limit=3\nheard 2.1.2.3 1.2.1 a 8 once-join 2.1.2.3 =\nput 15 1.2.1 a 8 once join 2.1.2.3 limit=3\nput 25 1.2.1 a 8 once join 2.1.2.3 limit=3\nrefused 2.c7 BAD_MEMBER_TOKEN\nasked 25.1.2.7 9 disk message\nasked 2.1.2.3 4 a leave\nasked 15.1.2.3 3 disk join\nput 2 1.2.1 disk 3 once message 25.1.2.7/9 =x=1\nput 2 1.2.1 a 9 begin leave 2.1.2.3/4\nheard 2.1.2.3 1.2.1 a 9 begin-leave 2.1.2.3 =\nput 2 1.2.1 a 10 approve 1.2.1/9 1 - -\nheard 2.1.2.3 1.2.1 a 10 approve - =\nput 2 1.2.1 disk 4 begin join 15.1.2.3 phases=n\nput 15 1.2.1 disk 3 once message 25.1.2.7/9 =x=1\nput 25 1.2.1 disk 3 once message 25.1.2.7/9 =x=1\nheard 25.1.2.7 1.2.1 disk 3 once-message 25.1.2.7 =\nput 15 1.2.1 a 9 begin leave 2.1.2.3/4\nput 25 1.2.1 a 9 begin leave 2.1.2.3/4\nput 15 1.2.1 a 10 approve 1.2.1/9 1 - -\nnoted 15.c3 1.2.1 a 10 - =\nput 25 1.2.1 a 10 approve 1.2.1/9 1 - -\nput 15 1.2.1 disk 4 begin join 15.1.2.3 phases=n\nheard 15.1.2.3 1.2.1 disk 4 begin-join 25.1.2.7 =\ncast 15.1.2.3 1.2.1/4 1 A\nput 25 1.2.1 disk 4 begin join 15.1.2.3 phases=n\nheard 25.1.2.7 1.2.1 disk 4 begin-join 25.1.2.7 =\ncast 25.1.2.7 1.2.1/4 1 A\nput 2 1.2.1 disk 5 approve 1.2.1/4 1 25.1.2.7=A,15.1.2.3=A -\nput 15 1.2.1 disk 5 approve 1.2.1/4 1 25.1.2.7=A,15.1.2.3=A -\nheard 15.1.2.3 1.2.1 disk 5 approve 25.1.2.7,15.1.2.3 =\nput 25 1.2.1 disk 5 approve 1.2.1/4 1 25.1.2.7=A,15.1.2.3=A -\nheard 25.1.2.7 1.2.1 disk 5 approve 25.1.2.7,15.1.2.3 =\nrefused 25.c6 BAD_MEMBER_TOKEN\nasked 15.1.2.3 4 disk state\nput 2 1.2.1 disk 6 begin state 15.1.2.3/4 =red\nput 15 1.2.1 disk 6 begin state 15.1.2.3/4 =red\nheard 15.1.2.3 1.2.1 disk 6 begin-state 25.1.2.7,15.1.2.3 =\ncast 15.1.2.3 1.2.1/6 1 A\nput 25 1.2.1 disk 6 begin state 15.1.2.3/4 =red\nheard 25.1.2.7 1.2.1 disk 6 begin-state 25.1.2.7,15.1.2.3 =\ncast 25.1.2.7 1.2.1/6 1 A\nput 2 1.2.1 disk 7 approve 1.2.1/6 1 25.1.2.7=A,15.1.2.3=A -\nput 15 1.2.1 disk 7 approve 1.2.1/6 1 25.1.2.7=A,15.1.2.3=A -\nheard 15.1.2.3 1.2.1 disk 7 approve 25.1.2.7,15.1.2.3 =red\nput 25 1.2.1 disk 7 approve 1.2.1/6 1 25.1.2.7=A,15.1.2.3=A -\nheard 25.1.2.7 1.2.1 disk 7 approve 25.1.2.7,15.1.2.3 =red\nasked 25.1.2.7 10 disk state\nput 2 1.2.1 disk 8 begin state 25.1.2.7/10 =red\nasked 15.1.2.3 5 disk state\nput 25 1.2.1 disk 8 begin state 25.1.2.7/10 =red\nheard 25.1.2.7 1.2.1 disk 8 begin-state 25.1.2.7,15.1.2.3 =red\ncast 25.1.2.7 1.2.1/8 1 A\ntold 15.1.2.3 5 COLLIDE 1.2.1/8\nput 15 1.2.1 disk 8 begin state 25.1.2.7/10 =red\nheard 15.1.2.3 1.2.1 disk 8 begin-state 25.1.2.7,15.1.2.3 =red\ncast 15.1.2.3 1.2.1/8 1 A\nput 2 1.2.1 disk 9 approve 1.2.1/8 1 25.1.2.7=A,15.1.2.3=A -\nput 15 1.2.1 disk 9 approve 1.2.1/8 1 25.1.2.7=A,15.1.2.3=A -\nheard 15.1.2.3 1.2.1 disk 9 approve 25.1.2.7,15.1.2.3 =red\nput 25 1.2.1 disk 9 approve 1.2.1/8 1 25.1.2.7=A,15.1.2.3=A -\nheard 25.1.2.7 1.2.1 disk 9 approve 25.1.2.7,15.1.2.3 =red\nrefused 25.c4 BAD_PARAMETER value\nasked 25.1.2.7 11 disk state\nput 2 1.2.1 disk 10 begin state 25.1.2.7/11 =\nput 15 1.2.1 disk 10 begin state 25.1.2.7/11 =\nheard 15.1.2.3 1.2.1 disk 10 begin-state 25.1.2.7,15.1.2.3 =red\ncast 15.1.2.3 1.2.1/10 1 A\nput 25 1.2.1 disk 10 begin state 25.1.2.7/11 =\nheard 25.1.2.7 1.2.1 disk 10 begin-state 25.1.2.7,15.1.2.3 =red\ncast 25.1.2.7 1.2.1/10 1 A\nput 2 1.2.1 disk 11 approve 1.2.1/10 1 25.1.2.7=A,15.1.2.3=A -\nput 15 1.2.1 disk 11 approve 1.2.1/10 1 25.1.2.7=A,15.1.2.3=A -\nheard 15.1.2.3 1.2.1 disk 11 approve 25.1.2.7,15.1.2.3 =\nput 25 1.2.1 disk 11 approve 1.2.1/10 1 25.1.2.7=A,15.1.2.3=A -\nheard 25.1.2.7 1.2.1 disk 11 approve 25.1.2.7,15.1.2.3 =\nrefused 2.c7 BAD_MEMBER_TOKEN\nasked 25.1.2.7 12 disk expel\nput 2 1.2.1 disk 12 begin expel 25.1.2.7/12 15.1.2.3\nrefused 25.c4 COLLIDE 12\nrefused 25.c4 BAD_PARAMETER value\nasked 15.1.1.6 6 a join\nrefused 15.c9 COLLIDE 6\n"
unfolding all_opens
fixed_level_05 = refl

pub fixed_level_07 : transcript (codes "") (codes "mode fixed\nnode 1\nnode 2\nadapter 1 1 10.1.0.9\nadapter 1 2 10.2.0.10\nadapter 2 1 10.1.0.16\nadapter 2 2 10.2.0.17\nlevel 2 1\nbegin\nclient 2 c1 A\njoin c1 disk 1 batch=joins\nflow\nclient 1 c2 A=blue%2C\njoin c2 db 1 source=disk phases=n limit=1\nflow\nclient 2 c1 A\njoin c1 disk 3 batch=joins\nflow\nflow\nflow\nattrs c1 disk n batch=joins\ndeliver 2 1 3\ndeliver 2 1 3\ndeliver 2 1 3\ndeliver 2 1 3\ndeliver 2 1 3\ndeliver 1 1 11\ndeliver 1 2 29\nvote c2 db A\nvote c1 disk A=v\nleave c1 disk n\ndeliver 1 2 2\nrun 1\nstate c1 disk n up\ndeliver 1 2 23\nrun 5\nexpel c1 disk n 1.1.2.2\nexpel c1 disk n 2.1.1.1\ntick 1\nflow\nflow\ndeliver 2 2 10\ndeliver 2 1 24\ndeliver 2 1 12\ndeliver 2 2 5\ndeliver 2 2 9\ndeliver 2 2 9\ndeliver 1 1 17\ntick 1\ndeliver 1 1 3\ndeliver 1 2 3\ndeliver 2 2 9\nstate c1 disk n wwwwwwwwwwwwwwwwwwwwwwwwwwwwwwwwwwwwwwwwwwwwwwwwwwwwwwwwwwwwwwwwwwwwwwwwwwwwwwwwwwwwwwwwwwwwwwwwwwwwwwwwwwwwwwwwwwwwwwwwwwwwwwwwwwwwwwwwwwwwwwwwwwwwwwwwwwwwwwwwwwwwwwwwwwwwwwwwwwwwwwwwwwwwwwwwwwwwwwwwwwwwwwwwwwwwwwwwwwwwwwwwwwwwwwwwwwwwwwwwwwwwwwwwwwwwwwwwwwwwwwwwwwwwwwwwwwwwwwwwwwwwwwwwwwwwwwwwwwww\ndeliver 2 1 15\ndeliver 2 1 15\ndeliver 2 1 15\nmessage c1 disk n x=1\ndeliver 2 1 16\ndeliver 2 1 16\ndeliver 2 1 16\ndeliver 2 1 16\njoin c1 db 3 source=disk phases=n limit=1\nvote c1 disk A\ndeliver 2 1 17\ndeliver 2 1 17\nstate c1 db 1 up\nexpel c1 disk n 2.1.1.1\nrun 1\ndeliver 1 1 24\ndeliver 2 1 12\ndeliver 1 2 12\ndeliver 2 1 15\ndeliver 2 2 4\ndeliver 2 2 28\nsubscribe c1 db\nflow\ndeliver 2 2 16\ndeliver 1 2 3\ndeliver 1 1 1\ndeliver 2 2 7\nmessage c1 disk 1 x=1\nleave c2 db n\nrun 5\nrun 3\ndeliver 2 2 1\ndeliver 2 2 30\ndeliver 1 2 7\nrun 3\nrun 4\nrun 5\nattrs c1 disk 1 default=approve batch=joins phases=n\ndrop 2 1\nexpel c1 disk n 2.1.1.1\nexpel c1 db 1 2.1.3.6\nmessage c1 db 1 x=1\ndeliver 2 1 36\ndeliver 1 2 17\ndeliver 1 2 17\ndeliver 1 2 17\ndeliver 1 2 17\nflow\nmessage c1 disk n x=1\nflow\nleave c1 disk n\nflow\nrun 3\nstate c1 disk n red\njoin c1 disk 1 batch=joins\nstate c1 disk n wwwwwwwwwwwwwwwwwwwwwwwwwwwwwwwwwwwwwwwwwwwwwwwwwwwwwwwwwwwwwwwwwwwwwwwwwwwwwwwwwwwwwwwwwwwwwwwwwwwwwwwwwwwwwwwwwwwwwwwwwwwwwwwwwwwwwwwwwwwwwwwwwwwwwwwwwwwwwwwwwwwwwwwwwwwwwwwwwwwwwwwwwwwwwwwwwwwwwwwwwwwwwwwwwwwwwwwwwwwwwwwwwwwwwwwwwwwwwwwwwwwwwwwwwwwwwwwwwwwwwwwwwwwwwwwwwwwwwwwwwwwwwwwwwwwwwwwwwwww\nmessage c1 disk n ~\nrun 4\nrun 1\nflow\n") ≡ codes "up 1 1\nin 1 1.1.1 1.1,2.1\nup 2 1\nin 2 1.1.1 1.1,2.1\nasked 2.1.1.1 1 disk join\nput 1 1.1.1 disk 0 once join 2.1.1.1 batch=joins\nput 2 1.1.1 disk 0 once join 2.1.1.1 batch=joins\nheard 2.1.1.1 1.1.1 disk 0 once-join 2.1.1.1 =\nasked 1.1.1.1 1 db join\ntold 1.1.1.1 1 NO_SOURCE_GROUP_PROVIDER 1\nrefused 2.c1 EXISTS\nrefused 2.c1 EXISTS\nasked 2.1.1.1 2 disk attrs\nput 1 1.1.1 disk 1 begin attrs 2.1.1.1/2 batch=joins\nrefused 1.c2 BAD_MEMBER_TOKEN\nrefused 2.c1 VOTE_NOT_EXPECTED\nrefused 2.c1 COLLIDE 2\nput 2 1.1.1 disk 1 begin attrs 2.1.1.1/2 batch=joins\nheard 2.1.1.1 1.1.1 disk 1 begin-attrs 2.1.1.1 =\ncast 2.1.1.1 1.1.1/1 1 A\nput 1 1.1.1 disk 2 approve 1.1.1/1 1 2.1.1.1=A -\nput 2 1.1.1 disk 2 approve 1.1.1/1 1 2.1.1.1=A -\nheard 2.1.1.1 1.1.1 disk 2 approve 2.1.1.1 =\nasked 2.1.1.1 3 disk state\nput 1 1.1.1 disk 3 begin state 2.1.1.1/3 =up\nput 2 1.1.1 disk 3 begin state 2.1.1.1/3 =up\nheard 2.1.1.1 1.1.1 disk 3 begin-state 2.1.1.1 =\ncast 2.1.1.1 1.1.1/3 1 A\nput 1 1.1.1 disk 4 approve 1.1.1/3 1 2.1.1.1=A -\nput 2 1.1.1 disk 4 approve 1.1.1/3 1 2.1.1.1=A -\nheard 2.1.1.1 1.1.1 disk 4 approve 2.1.1.1 =up\nasked 2.1.1.1 4 disk expel\nrefused 2.c1 COLLIDE 4\ntold 2.1.1.1 4 NOT_A_MEMBER\nrefused 2.c1 BAD_PARAMETER value\nasked 2.1.1.1 5 disk message\nput 1 1.1.1 disk 5 begin message 2.1.1.1/5 =x=1\nasked 2.1.3.6 6 db join\nrefused 2.c1 VOTE_NOT_EXPECTED\nput 1 1.1.1 db 0 begin join 2.1.3.6 phases=n limit=1 source=disk src=6\nrefused 2.c1 COLLIDE 6\nrefused 2.c1 COLLIDE 5\nput 1 1.1.1 db 1 approve 1.1.1/0 1 2.1.3.6=LA -\nput 1 1.1.1 db 2 once reflect 1.1.1/4 =up\nput 2 1.1.1 disk 5 begin message 2.1.1.1/5 =x=1\nheard 2.1.1.1 1.1.1 disk 5 begin-message 2.1.1.1 =up\ncast 2.1.1.1 1.1.1/5 1 A\nput 2 1.1.1 db 0 begin join 2.1.3.6 phases=n limit=1 source=disk src=6\nheard 2.1.3.6 1.1.1 db 0 begin-join - =\ncast 2.1.3.6 1.1.1/0 1 A\nput 2 1.1.1 db 1 approve 1.1.1/0 1 2.1.3.6=LA -\nheard 2.1.3.6 1.1.1 db 1 approve 2.1.3.6 =\nput 2 1.1.1 db 2 once reflect 1.1.1/4 =up\nheard 2.1.3.6 1.1.1 db 2 once-reflect 2.1.3.6 =\nput 1 1.1.1 disk 6 approve 1.1.1/5 1 2.1.1.1=A -\nput 2 1.1.1 disk 6 approve 1.1.1/5 1 2.1.1.1=A -\nheard 2.1.1.1 1.1.1 disk 6 approve 2.1.1.1 =up\nasked 2.1.1.1 7 disk message\nrefused 1.c2 BAD_MEMBER_TOKEN\nput 1 1.1.1 disk 7 once message 2.1.1.1/7 =x=1\nput 2 1.1.1 disk 7 once message 2.1.1.1/7 =x=1\nheard 2.1.1.1 1.1.1 disk 7 once-message 2.1.1.1 =up\nasked 2.1.1.1 8 disk attrs\nrefused 2.c1 COLLIDE 8\nasked 2.1.3.6 9 db expel\nrefused 2.c1 COLLIDE 9\nput 1 1.1.1 db 3 once expel 2.1.3.6/9 2.1.3.6\nput 2 1.1.1 db 3 once expel 2.1.3.6/9 2.1.3.6\nheard 2.1.3.6 1.1.1 db 3 once-expel - =\nnoted 2.c1 1.1.1 db 3 - =\nrefused 2.c1 COLLIDE 8\nrefused 2.c1 COLLIDE 8\nput 1 1.1.1 disk 8 once attrs 2.1.1.1/8 phases=n batch=joins\nput 2 1.1.1 disk 8 once attrs 2.1.1.1/8 phases=n batch=joins\nheard 2.1.1.1 1.1.1 disk 8 once-attrs 2.1.1.1 =up\nasked 2.1.1.1 10 disk state\nrefused 2.c1 EXISTS\nrefused 2.c1 BAD_PARAMETER value\nrefused 2.c1 COLLIDE 10\nput 1 1.1.1 disk 9 begin state 2.1.1.1/10 =red\nput 2 1.1.1 disk 9 begin state 2.1.1.1/10 =red\nheard 2.1.1.1 1.1.1 disk 9 begin-state 2.1.1.1 =up\ncast 2.1.1.1 1.1.1/9 1 A\nput 1 1.1.1 disk 10 approve 1.1.1/9 1 2.1.1.1=A -\nput 2 1.1.1 disk 10 approve 1.1.1/9 1 2.1.1.1=A -\nheard 2.1.1.1 1.1.1 disk 10 approve 2.1.1.1 =red\n"
unfolding all_opens
fixed_level_07 = refl

pub fixed_level_09 : transcript (codes "") (codes "mode fixed\nnode 1\nnode 2\nnode 3\nnode 4\nlevel 1 2\nlevel 2 2\nlevel 3 1\nlevel 4 1\ndomain 3\nbegin\nclient 2 c1 -\njoin c1 disk 2 default=approve limit=0 phases=n\nflow\nclient 3 c2 -\njoin c2 a 3 batch=joins limit=3\nflow\nclient 3 c3 A,R\njoin c3 z 1 limit=3 phases=n\nflow\nclient 3 c4 A=vvvvvvvvvvvvvvvvvvvvvvvvvvvvvvvvvvvvvvvvvvvvvvvvvvvvvvvvvvvvvvvvvvvvvvvvvvvvvvvvvvvvvvvvvvvvvvvvvvvvvvvvvvvvvvvvvvvvvvvvvvvvvvvvvvvvvvvvvvvvvvvvvvvvvvvvvvvvvvvvvvvvvvvvvvvvvvvvvvvvvvvvvvvvvvvvvvvvvvvvvvvvvvvvvvvvvvvvvvvvvvvvvvvvvvvvvvvvvvvvvvvvvvvvvvvvvvvvvvvvvvvvvvvvvvvvvvvvvvvvvvvvvvvvvvvvvvvvvvvv,-\njoin c4 a 3 batch=joins limit=3\nflow\nclient 1 c5 A,A,C\njoin c5 db 3 batch=failures slimit=0 limit=0 source=disk sphases=n\nclient 4 c6 A\njoin c6 z 2 limit=3 phases=n\nflow\nrun 3\nvote c2 a A\ndeliver 1 4 8\ndeliver 1 3 7\ndeliver 4 4 28\nmessage c6 z n hi\nrun 2\ndeliver 2 1 23\nrun 3\nrun 3\nflow\nleave c3 z 1\ndrop 3 1\nexpel c3 z 1 3.1.1.2 4.1.2.1\nstate c2 a n ~\nrun 5\nrun 1\nexpel c2 a 1 3.1.3.1\nexpel c6 z n 4.1.2.1\nstate c2 a 1 red\ndeliver 4 1 18\ndeliver 4 1 18\ndeliver 4 1 18\ndrop 1 2\njoin c4 disk 1 default=approve limit=0 phases=n\ndeliver 1 3 15\ndeliver 1 3 14\ndeliver 1 3 15\ndeliver 1 4 13\ndeliver 3 1 25\ndeliver 3 1 26\ndeliver 3 1 26\ndeliver 4 3 27\ndeliver 4 1 19\ndeliver 4 1 19\ndeliver 1 4 14\ndeliver 3 1 27\ndrop 3 1\nrun 1\nflow\nrun 1\nvote c1 disk C\nattrs c1 disk n default=approve limit=0 phases=n\nvote c4 a R\nattrs c4 disk n default=approve limit=0 phases=n\nmessage c4 a n hi\ndrop 2 1\ndeliver 4 2 9\ndeliver 3 4 7\ndeliver 1 2 23\ndrop 2 4\njoin c4 a 2 batch=joins limit=3\nflow\nrun 3\ndeliver 4 2 17\ndeliver 1 4 17\ndeliver 1 3 4\ndeliver 3 2 5\ndeliver 2 4 15\ndeliver 1 3 23\ndeliver 4 3 6\ndeliver 3 3 18\ndeliver 4 2 25\nrun 4\ntick 3\nflow\ndrop 2 1\nmessage c2 a 1 ~\nattrs c1 disk n phases=n default=approve\nmessage c5 db 1 ~\nstate c5 db 1 wwwwwwwwwwwwwwwwwwwwwwwwwwwwwwwwwwwwwwwwwwwwwwwwwwwwwwwwwwwwwwwwwwwwwwwwwwwwwwwwwwwwwwwwwwwwwwwwwwwwwwwwwwwwwwwwwwwwwwwwwwwwwwwwwwwwwwwwwwwwwwwwwwwwwwwwwwwwwwwwwwwwwwwwwwwwwwwwwwwwwwwwwwwwwwwwwwwwwwwwwwwwwwwwwwwwwwwwwwwwwwwwwwwwwwwwwwwwwwwwwwwwwwwwwwwwwwwwwwwwwwwwwwwwwwwwwwwwwwwwwwwwwwwwwwwwwwwwwwww\nattrs c4 disk n default=approve limit=0 phases=n\nflow\ngoodbye c4\nflow\nvote c1 disk A\nvote c1 disk C\nstate c1 disk n up\nvote c1 disk R\nleave c1 disk 1\nrun 2\nflow\ndeliver 2 2 14\nvote c3 z A\nexpel c1 disk n 2.1.2.1\ndeliver 2 1 31\ndeliver 2 1 31\ndeliver 2 1 31\ndeliver 2 1 31\ndeliver 2 1 31\nflow\n") ≡ codes "up 1 1\nin 1 1.1.1 1.1,2.1,3.1,4.1\nup 2 1\nin 2 1.1.1 1.1,2.1,3.1,4.1\nup 3 1\nin 3 1.1.1 1.1,2.1,3.1,4.1\nup 4 1\nin 4 1.1.1 1.1,2.1,3.1,4.1\nasked 2.1.2.1 1 disk join\nput 1 1.1.1 disk 0 begin join 2.1.2.1 phases=n\nput 2 1.1.1 disk 0 begin join 2.1.2.1 phases=n\nheard 2.1.2.1 1.1.1 disk 0 begin-join - =\nput 3 1.1.1 disk 0 begin join 2.1.2.1 phases=n\nput 4 1.1.1 disk 0 begin join 2.1.2.1 phases=n\nasked 3.1.3.1 1 a join\nput 1 1.1.1 a 0 once join 3.1.3.1 batch=joins limit=3\nput 2 1.1.1 a 0 once join 3.1.3.1 batch=joins limit=3\nput 3 1.1.1 a 0 once join 3.1.3.1 batch=joins limit=3\nheard 3.1.3.1 1.1.1 a 0 once-join 3.1.3.1 =\nput 4 1.1.1 a 0 once join 3.1.3.1 batch=joins limit=3\nasked 3.1.1.2 2 z join\nput 1 1.1.1 z 0 begin join 3.1.1.2 phases=n limit=3\nput 2 1.1.1 z 0 begin join 3.1.1.2 phases=n limit=3\nput 3 1.1.1 z 0 begin join 3.1.1.2 phases=n limit=3\nheard 3.1.1.2 1.1.1 z 0 begin-join - =\ncast 3.1.1.2 1.1.1/0 1 A\nput 4 1.1.1 z 0 begin join 3.1.1.2 phases=n limit=3\nput 1 1.1.1 z 1 approve 1.1.1/0 1 3.1.1.2=A -\nput 2 1.1.1 z 1 approve 1.1.1/0 1 3.1.1.2=A -\nput 3 1.1.1 z 1 approve 1.1.1/0 1 3.1.1.2=A -\nheard 3.1.1.2 1.1.1 z 1 approve 3.1.1.2 =\nput 4 1.1.1 z 1 approve 1.1.1/0 1 3.1.1.2=A -\nasked 3.1.3.3 3 a join\ntold 3.1.3.3 3 DUPLICATE_INSTANCE_NUMBER\nasked 1.1.3.1 1 db join\nasked 4.1.2.1 1 z join\nput 1 1.1.1 z 2 begin join 4.1.2.1 phases=n limit=3\ntold 1.1.3.1 1 NO_SOURCE_GROUP_PROVIDER 1\nput 2 1.1.1 z 2 begin join 4.1.2.1 phases=n limit=3\nput 3 1.1.1 z 2 begin join 4.1.2.1 phases=n limit=3\nheard 3.1.1.2 1.1.1 z 2 begin-join 3.1.1.2 =\ncast 3.1.1.2 1.1.1/2 1 A\nput 4 1.1.1 z 2 begin join 4.1.2.1 phases=n limit=3\nheard 4.1.2.1 1.1.1 z 2 begin-join 3.1.1.2 =\ncast 4.1.2.1 1.1.1/2 1 A\nput 1 1.1.1 z 3 approve 1.1.1/2 1 3.1.1.2=A,4.1.2.1=A -\nput 2 1.1.1 z 3 approve 1.1.1/2 1 3.1.1.2=A,4.1.2.1=A -\nput 3 1.1.1 z 3 approve 1.1.1/2 1 3.1.1.2=A,4.1.2.1=A -\nheard 3.1.1.2 1.1.1 z 3 approve 3.1.1.2,4.1.2.1 =\nput 4 1.1.1 z 3 approve 1.1.1/2 1 3.1.1.2=A,4.1.2.1=A -\nheard 4.1.2.1 1.1.1 z 3 approve 3.1.1.2,4.1.2.1 =\nrefused 3.c2 VOTE_NOT_EXPECTED\nasked 4.1.2.1 2 z message\nput 1 1.1.1 z 4 begin message 4.1.2.1/2 =hi\nput 2 1.1.1 z 4 begin message 4.1.2.1/2 =hi\nput 3 1.1.1 z 4 begin message 4.1.2.1/2 =hi\nheard 3.1.1.2 1.1.1 z 4 begin-message 3.1.1.2,4.1.2.1 =\ncast 3.1.1.2 1.1.1/4 1 A\nput 4 1.1.1 z 4 begin message 4.1.2.1/2 =hi\nheard 4.1.2.1 1.1.1 z 4 begin-message 3.1.1.2,4.1.2.1 =\ncast 4.1.2.1 1.1.1/4 1 A\nput 1 1.1.1 z 5 approve 1.1.1/4 1 3.1.1.2=A,4.1.2.1=A -\nput 2 1.1.1 z 5 approve 1.1.1/4 1 3.1.1.2=A,4.1.2.1=A -\nput 3 1.1.1 z 5 approve 1.1.1/4 1 3.1.1.2=A,4.1.2.1=A -\nheard 3.1.1.2 1.1.1 z 5 approve 3.1.1.2,4.1.2.1 =\nput 4 1.1.1 z 5 approve 1.1.1/4 1 3.1.1.2=A,4.1.2.1=A -\nheard 4.1.2.1 1.1.1 z 5 approve 3.1.1.2,4.1.2.1 =\nasked 3.1.1.2 4 z leave\nrefused 3.c3 COLLIDE 4\nasked 3.1.3.1 5 a state\nput 1 1.1.1 a 1 begin state 3.1.3.1/5 =\nput 1 1.1.1 z 6 once leave 3.1.1.2/4\nput 2 1.1.1 a 1 begin state 3.1.3.1/5 =\nput 3 1.1.1 a 1 begin state 3.1.3.1/5 =\nheard 3.1.3.1 1.1.1 a 1 begin-state 3.1.3.1 =\nput 4 1.1.1 a 1 begin state 3.1.3.1/5 =\nput 2 1.1.1 z 6 once leave 3.1.1.2/4\nput 3 1.1.1 z 6 once leave 3.1.1.2/4\nheard 3.1.1.2 1.1.1 z 6 once-leave 4.1.2.1 =\nput 4 1.1.1 z 6 once leave 3.1.1.2/4\nheard 4.1.2.1 1.1.1 z 6 once-leave 4.1.2.1 =\nput 1 1.1.1 a 2 approve 1.1.1/1 1 3.1.3.1=LA -\nput 2 1.1.1 a 2 approve 1.1.1/1 1 3.1.3.1=LA -\nput 3 1.1.1 a 2 approve 1.1.1/1 1 3.1.3.1=LA -\nheard 3.1.3.1 1.1.1 a 2 approve 3.1.3.1 =\nput 4 1.1.1 a 2 approve 1.1.1/1 1 3.1.3.1=LA -\nasked 3.1.3.1 6 a expel\nasked 4.1.2.1 3 z expel\nrefused 3.c2 COLLIDE 6\nput 1 1.1.1 z 7 begin expel 4.1.2.1/3 4.1.2.1\nput 1 1.1.1 z 8 approve 1.1.1/7 1 - -\nasked 3.1.1.7 7 disk join\nput 3 1.1.1 z 7 begin expel 4.1.2.1/3 4.1.2.1\nput 3 1.1.1 z 8 approve 1.1.1/7 1 - -\nput 4 1.1.1 z 7 begin expel 4.1.2.1/3 4.1.2.1\nheard 4.1.2.1 1.1.1 z 7 begin-expel 4.1.2.1 =\nput 4 1.1.1 z 8 approve 1.1.1/7 1 - -\nheard 4.1.2.1 1.1.1 z 8 approve - =\nput 2 1.1.1 z 7 begin expel 4.1.2.1/3 4.1.2.1\nput 2 1.1.1 z 8 approve 1.1.1/7 1 - -\nput 1 1.1.1 a 3 once expel 3.1.3.1/6 3.1.3.1\nput 2 1.1.1 a 3 once expel 3.1.3.1/6 3.1.3.1\nput 3 1.1.1 a 3 once expel 3.1.3.1/6 3.1.3.1\nheard 3.1.3.1 1.1.1 a 3 once-expel - =\nput 4 1.1.1 a 3 once expel 3.1.3.1/6 3.1.3.1\ncast 2.1.2.1 1.1.1/0 1 C\nasked 2.1.2.1 2 disk attrs\nrefused 3.c4 BAD_MEMBER_TOKEN\nrefused 3.c4 COLLIDE 7\nrefused 3.c4 BAD_MEMBER_TOKEN\nasked 3.1.2.8 8 a join\nput 1 1.1.1 a 4 once join 3.1.2.8 batch=joins limit=3\nput 2 1.1.1 a 4 once join 3.1.2.8 batch=joins limit=3\nput 3 1.1.1 a 4 once join 3.1.2.8 batch=joins limit=3\nheard 3.1.2.8 1.1.1 a 4 once-join 3.1.2.8 =\nput 4 1.1.1 a 4 once join 3.1.2.8 batch=joins limit=3\nput 1 1.1.1 disk 1 phase 1.1.1/0 1 2.1.2.1=C -\ntold 2.1.2.1 2 NOT_A_MEMBER\nput 2 1.1.1 disk 1 phase 1.1.1/0 1 2.1.2.1=C -\nheard 2.1.2.1 1.1.1 disk 1 phase - =\nput 3 1.1.1 disk 1 phase 1.1.1/0 1 2.1.2.1=C -\nput 4 1.1.1 disk 1 phase 1.1.1/0 1 2.1.2.1=C -\nrefused 3.c2 BAD_MEMBER_TOKEN\nasked 2.1.2.1 3 disk attrs\nrefused 1.c5 BAD_MEMBER_TOKEN\nrefused 1.c5 BAD_MEMBER_TOKEN\nrefused 3.c4 COLLIDE 7\ntold 2.1.2.1 3 NOT_A_MEMBER\nput 1 1.1.1 a 5 once fail 3.1.2.8:gone\nput 2 1.1.1 a 5 once fail 3.1.2.8:gone\nput 3 1.1.1 a 5 once fail 3.1.2.8:gone\nput 4 1.1.1 a 5 once fail 3.1.2.8:gone\ncast 2.1.2.1 1.1.1/0 2 A\nrefused 2.c1 VOTE_NOT_EXPECTED\nasked 2.1.2.1 4 disk state\nrefused 2.c1 VOTE_NOT_EXPECTED\nrefused 2.c1 COLLIDE 4\nput 1 1.1.1 disk 2 approve 1.1.1/0 2 2.1.2.1=A -\nput 1 1.1.1 disk 3 begin state 2.1.2.1/4 =up\nput 2 1.1.1 disk 2 approve 1.1.1/0 2 2.1.2.1=A -\nheard 2.1.2.1 1.1.1 disk 2 approve 2.1.2.1 =\nput 3 1.1.1 disk 2 approve 1.1.1/0 2 2.1.2.1=A -\nput 4 1.1.1 disk 2 approve 1.1.1/0 2 2.1.2.1=A -\nput 2 1.1.1 disk 3 begin state 2.1.2.1/4 =up\nheard 2.1.2.1 1.1.1 disk 3 begin-state 2.1.2.1 =\nput 3 1.1.1 disk 3 begin state 2.1.2.1/4 =up\nput 4 1.1.1 disk 3 begin state 2.1.2.1/4 =up\nrefused 3.c3 BAD_MEMBER_TOKEN\nasked 2.1.2.1 5 disk expel\ntold 2.1.2.1 5 COLLIDE 1.1.1/3\n"
unfolding all_opens
fixed_level_09 = refl

pub fixed_level_11 : transcript (codes "") (codes "mode fixed\nnode 1\nadapter 1 1 10.1.0.9\nadapter 1 3 10.3.0.11\nlevel 1 1\nbegin\nclient 1 c1 -\njoin c1 a 2 batch=both default=approve limit=3 phases=n\nflow\nclient 1 c1 R,-\njoin c1 a 3 batch=both default=approve limit=3 phases=n\nclient 1 c1 A\njoin c1 disk 3 limit=2\nflow\nclient 1 c4 -,-,C=~\njoin c4 db 1 slimit=3 sphases=1 batch=both limit=3 phases=n source=disk\nflow\nrun 4\nflow\nrun 4\nstate c1 a n ~\nmessage c1 disk n hi\ngoodbye c1\nstate c1 disk 1 wwwwwwwwwwwwwwwwwwwwwwwwwwwwwwwwwwwwwwwwwwwwwwwwwwwwwwwwwwwwwwwwwwwwwwwwwwwwwwwwwwwwwwwwwwwwwwwwwwwwwwwwwwwwwwwwwwwwwwwwwwwwwwwwwwwwwwwwwwwwwwwwwwwwwwwwwwwwwwwwwwwwwwwwwwwwwwwwwwwwwwwwwwwwwwwwwwwwwwwwwwwwwwwwwwwwwwwwwwwwwwwwwwwwwwwwwwwwwwwwwwwwwwwwwwwwwwwwwwwwwwwwwwwwwwwwwwwwwwwwwwwwwwwwwwwwwwwwwwww\nattrs c4 db 1 slimit=3 sphases=1 batch=both limit=3 phases=n source=disk\nrun 3\njoin c4 z 3 default=reject limit=5\nstate c4 z n red\nsubscribe c4 z\ndeliver 1 1 14\nrun 4\nclient 1 c5 A\njoin c5 a 3 batch=both default=approve limit=3 phases=n\nmessage c4 z n hi\njoin c1 disk 1 limit=2\ndeliver 1 1 4\ndeliver 1 1 19\ndeliver 1 1 29\ndeliver 1 1 6\nstate c5 a n red\nrun 4\nflow\n") ≡ codes "up 1 1\nin 1 1.1.1 1.1\nasked 1.1.2.1 1 a join\nput 1 1.1.1 a 0 begin join 1.1.2.1 phases=n batch=both limit=3\nheard 1.1.2.1 1.1.1 a 0 begin-join - =\nrefused 1.c1 EXISTS\nrefused 1.c1 EXISTS\nrefused 1.c1 EXISTS\nasked 1.1.3.2 2 disk join\nput 1 1.1.1 disk 0 once join 1.1.3.2 limit=2\nheard 1.1.3.2 1.1.1 disk 0 once-join 1.1.3.2 =\nasked 1.1.1.3 3 db join\nput 1 1.1.1 db 0 begin join 1.1.1.3 phases=n batch=both limit=3 source=disk slimit=3 src=1\nheard 1.1.1.3 1.1.1 db 0 begin-join - =\nput 1 1.1.1 a 1 late 1.1.1/0 1 1.1.2.1\nheard 1.1.2.1 1.1.1 a 1 late - =\nput 1 1.1.1 a 2 approve 1.1.1/0 1 1.1.2.1=LA -\nheard 1.1.2.1 1.1.1 a 2 approve 1.1.2.1 =\nput 1 1.1.1 db 1 late 1.1.1/0 1 1.1.1.3\nheard 1.1.1.3 1.1.1 db 1 late - =\nput 1 1.1.1 db 2 approve 1.1.1/0 1 1.1.1.3=LA -\nheard 1.1.1.3 1.1.1 db 2 approve 1.1.1.3 =\nasked 1.1.2.1 4 a state\nasked 1.1.3.2 5 disk message\nrefused 1.c1 BAD_MEMBER_TOKEN\nasked 1.1.1.3 6 db attrs\nput 1 1.1.1 a 3 begin state 1.1.2.1/4 =\nput 1 1.1.1 disk 1 begin message 1.1.3.2/5 =hi\nput 1 1.1.1 a 4 approve 1.1.1/3 1 1.1.2.1=FA -\nput 1 1.1.1 a 5 begin fail 1.1.2.1:gone\nput 1 1.1.1 a 6 approve 1.1.1/5 1 - -\nput 1 1.1.1 disk 2 approve 1.1.1/1 1 1.1.3.2=FA -\nput 1 1.1.1 disk 3 once fail 1.1.3.2:gone\nput 1 1.1.1 db 3 begin fail 1.1.1.3:cast\nheard 1.1.1.3 1.1.1 db 3 begin-fail 1.1.1.3 =\nput 1 1.1.1 db 4 approve 1.1.1/3 1 - -\nheard 1.1.1.3 1.1.1 db 4 approve - =\nasked 1.1.3.7 7 z join\nrefused 1.c4 COLLIDE 7\nrefused 1.c4 UNKNOWN_GROUP\nput 1 1.1.1 z 0 once join 1.1.3.7 default=reject limit=5\nheard 1.1.3.7 1.1.1 z 0 once-join 1.1.3.7 =\nasked 1.1.3.8 8 a join\nasked 1.1.3.7 9 z message\nrefused 1.c1 BAD_CLIENT_TOKEN\nrefused 1.c5 COLLIDE 8\nput 1 1.1.1 a 7 begin join 1.1.3.8 phases=n batch=both limit=3\nheard 1.1.3.8 1.1.1 a 7 begin-join - =\ncast 1.1.3.8 1.1.1/7 1 A\nput 1 1.1.1 z 1 begin message 1.1.3.7/9 =hi\nheard 1.1.3.7 1.1.1 z 1 begin-message 1.1.3.7 =\nput 1 1.1.1 a 8 approve 1.1.1/7 1 1.1.3.8=A -\nheard 1.1.3.8 1.1.1 a 8 approve 1.1.3.8 =\n"
unfolding all_opens
fixed_level_11 = refl
