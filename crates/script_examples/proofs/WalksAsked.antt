-- Random walks in mode asked: whole transcripts.
use Rattle.std.specs.Prelude.{◌≡◌, codes}
use Rattle.std.proofs.Common.{refl}
use Rattle.world_model.specs.Play.{transcript}
use Rattle.script_examples.specs.Opens.{all_opens}

pub asked_level_08 : transcript (codes "") (codes "mode asked\nnode 1\nnode 2\nadapter 1 1 10.1.0.9\nadapter 1 2 10.2.0.10\nadapter 2 1 10.1.0.16\nadapter 2 3 10.3.0.18\nlevel 1 2\nlevel 2 1\nbegin\nstart 1\nask 1 1 2\nflow\nclient 1 c1 A\njoin c1 a 3 default=reject batch=both limit=0 phases=n\nflow\nclient 2 c2 A\njoin c2 z 3 default=approve batch=both limit=5 phases=n\nclient 2 c3 A\njoin c3 a 3 default=reject batch=both limit=0 phases=n\nflow\nflow\nrun 5\nflow\nstop 1\nclient 1 c4 A\njoin c4 z 1 batch=both phases=1 default=reject\nleave c2 z n\nshow 2 hagsvote\nflow\njoin c3 a 1 default=reject batch=both limit=0 phases=n\nflow\njoin c3 db 2 batch=failures limit=3 phases=n source=disk\nflow\nflow\ntick 1\ntick 2\nflow\ndeliver 2 2 9\ndeliver 2 2 30\nrun 1\nflow\nask 1 1 2\nvote c3 a A\nvote c1 a A\ndeliver 2 2 22\ndeliver 1 2 10\ndeliver 1 2 3\njoin c2 db 3 limit=2\njoin c4 a 3 default=reject batch=both limit=0 phases=n\ndeliver 2 1 5\ndeliver 2 1 27\ndeliver 2 1 28\ndeliver 1 2 6\ndeliver 2 2 8\nclient 1 c4 C,A=x,A\ntick 2\nclient 1 c6 A=~\njoin c6 a 2 default=reject batch=both limit=0 phases=n\nvote c1 a C\njoin c6 db 2 batch=failures limit=3 phases=n source=disk\nask 1 1\nflow\nstop 2\njoin c1 db 3 batch=failures limit=3 phases=n source=disk\ndeliver 2 1 13\ndeliver 2 2 30\ndeliver 2 2 9\ndeliver 1 1 11\ndeliver 2 2 11\nclient 1 c7 A,A\njoin c7 z 3 default=approve batch=both limit=5 phases=n\njoin c1 a 2 default=reject batch=both limit=0 phases=n\nstate c6 db 1 ~\nmessage c2 z 1 hi\nsubscribe c3 z\nexpel c4 z n 2.1.2.6\njoin c7 z 2 default=reject batch=joins phases=1\njoin c7 disk 3 batch=both limit=3\nrun 3\ndeliver 2 2 18\ndeliver 2 1 4\ndeliver 1 1 3\ndeliver 1 1 5\ndeliver 1 2 13\ndeliver 2 1 7\ndeliver 2 2 7\ndeliver 1 1 4\ndeliver 2 1 23\nflow\nmessage c6 db 1 ~\nclient 1 c8 A\njoin c8 db 1 batch=failures limit=3 phases=n source=disk\nflow\njoin c7 a 2 default=reject batch=both limit=0 phases=n\nflow\nflow\nclient 1 c1 -\ndeliver 1 1 6\ndeliver 2 1 16\ndeliver 1 2 29\ndeliver 1 1 2\ndeliver 2 1 12\njoin c6 db 2 batch=failures limit=3 phases=n source=disk\nstate c7 disk n wwwwwwwwwwwwwwwwwwwwwwwwwwwwwwwwwwwwwwwwwwwwwwwwwwwwwwwwwwwwwwwwwwwwwwwwwwwwwwwwwwwwwwwwwwwwwwwwwwwwwwwwwwwwwwwwwwwwwwwwwwwwwwwwwwwwwwwwwwwwwwwwwwwwwwwwwwwwwwwwwwwwwwwwwwwwwwwwwwwwwwwwwwwwwwwwwwwwwwwwwwwwwwwwwwwwwwwwwwwwwwwwwwwwwwwwwwwwwwwwwwwwwwwwwwwwwwwwwwwwwwwwwwwwwwwwwwwwwwwwwwwwwwwwwwwwwwwwwwww\nflow\ndeliver 1 2 1\ndeliver 1 1 23\ndeliver 1 1 19\ndeliver 1 2 28\ndeliver 2 1 20\ndeliver 2 2 7\njoin c7 db 2 batch=failures limit=3 phases=n source=disk\nflow\nstart 1\ntick 2\nflow\nrun 4\njoin c1 db 2 batch=failures limit=3 phases=n source=disk\nrun 4\nask 1 1 2\nrun 3\nvote c7 a A=v\nstate c7 a n %25\nclient 2 c10 A=vvvvvvvvvvvvvvvvvvvvvvvvvvvvvvvvvvvvvvvvvvvvvvvvvvvvvvvvvvvvvvvvvvvvvvvvvvvvvvvvvvvvvvvvvvvvvvvvvvvvvvvvvvvvvvvvvvvvvvvvvvvvvvvvvvvvvvvvvvvvvvvvvvvvvvvvvvvvvvvvvvvvvvvvvvvvvvvvvvvvvvvvvvvvvvvvvvvvvvvvvvvvvvvvvvvvvvvvvvvvvvvvvvvvvvvvvvvvvvvvvvvvvvvvvvvvvvvvvvvvvvvvvvvvvvvvvvvvvvvvvvvvvvvvvvvvvvvvvvvv,C\ndeliver 1 2 4\ndeliver 1 1 27\nrun 4\ngoodbye c1\nask 1 1\nflow\nvote c1 a A\nstart 2\nflow\nattrs c7 db 1 sphases=n batch=both default=approve phases=n source=disk\nflow\ngoodbye c1\ndeliver 1 2 2\ndeliver 1 2 30\ndeliver 2 2 11\ndeliver 1 2 16\ndeliver 2 2 23\nstart 2\ndeliver 2 1 1\nclient 2 c11 -,A\njoin c11 db 2 batch=failures limit=3 phases=n source=disk\nflow\nstate c11 db n ~\nstate c11 db n ~\nattrs c11 db n batch=failures limit=3 phases=n source=disk\nstate c6 a n ~\nstate c2 db n wwwwwwwwwwwwwwwwwwwwwwwwwwwwwwwwwwwwwwwwwwwwwwwwwwwwwwwwwwwwwwwwwwwwwwwwwwwwwwwwwwwwwwwwwwwwwwwwwwwwwwwwwwwwwwwwwwwwwwwwwwwwwwwwwwwwwwwwwwwwwwwwwwwwwwwwwwwwwwwwwwwwwwwwwwwwwwwwwwwwwwwwwwwwwwwwwwwwwwwwwwwwwwwwwwwwwwwwwwwwwwwwwwwwwwwwwwwwwwwwwwwwwwwwwwwwwwwwwwwwwwwwwwwwwwwwwwwwwwwwwwwwwwwwwwwwwwwwwwww\nflow\ndeliver 2 1 8\ndeliver 1 1 1\ndeliver 1 1 21\ndeliver 2 2 6\ndeliver 1 2 6\ndeliver 1 2 21\ndeliver 1 1 10\nstate c11 db n wwwwwwwwwwwwwwwwwwwwwwwwwwwwwwwwwwwwwwwwwwwwwwwwwwwwwwwwwwwwwwwwwwwwwwwwwwwwwwwwwwwwwwwwwwwwwwwwwwwwwwwwwwwwwwwwwwwwwwwwwwwwwwwwwwwwwwwwwwwwwwwwwwwwwwwwwwwwwwwwwwwwwwwwwwwwwwwwwwwwwwwwwwwwwwwwwwwwwwwwwwwwwwwwwwwwwwwwwwwwwwwwwwwwwwwwwwwwwwwwwwwwwwwwwwwwwwwwwwwwwwwwwwwwwwwwwwwwwwwwwwwwwwwwwwwwwwwwwwww\nattrs c11 db n batch=failures limit=3 phases=n source=disk\nstop 2\nvote c6 a A\ndrop 2 1\n") ≡ codes "up 1 1\nin 1 1.1.1 1.1\nasked 1.1.3.1 1 a join\nrefused 2.c2 NO_INIT\nrefused 2.c2 NO_INIT\nrefused 2.c3 NO_INIT\nrefused 2.c3 NO_INIT\ndown 1\nrefused 1.c4 NO_INIT\nrefused 1.c4 NO_INIT\nrefused 2.c2 NO_INIT\nrefused 2.c3 NO_INIT\nrefused 2.c3 NO_INIT\nrefused 2.c3 NO_INIT\nrefused 1.c1 NO_INIT\nrefused 2.c2 NO_INIT\nrefused 1.c4 NO_INIT\nrefused 1.c4 NO_INIT\nrefused 1.c6 NO_INIT\nrefused 1.c6 NO_INIT\nrefused 1.c1 NO_INIT\nrefused 1.c6 NO_INIT\nrefused 1.c1 NO_INIT\nrefused 1.c7 NO_INIT\nrefused 1.c7 NO_INIT\nrefused 1.c1 NO_INIT\nrefused 1.c6 NO_INIT\nrefused 2.c2 NO_INIT\nrefused 2.c3 NO_INIT\nrefused 1.c4 NO_INIT\nrefused 1.c7 NO_INIT\nrefused 1.c7 NO_INIT\nrefused 1.c6 NO_INIT\nrefused 1.c8 NO_INIT\nrefused 1.c8 NO_INIT\nrefused 1.c7 NO_INIT\nrefused 1.c1 NO_INIT\nrefused 1.c6 NO_INIT\nrefused 1.c7 NO_INIT\nrefused 1.c7 NO_INIT\nup 1 2\nin 1 1.1.2 1.2\nrefused 1.c1 NO_INIT\nrefused 1.c7 NO_INIT\nrefused 1.c7 NO_INIT\nrefused 2.c10 NO_INIT\nrefused 1.c1 NO_INIT\nin 1 3.1.2 1.2\nrefused 1.c1 NO_INIT\nup 2 1\nin 2 1.2.1 2.1\nrefused 1.c7 NO_INIT\nrefused 1.c1 NO_INIT\nasked 2.1.2.1 1 db join\nrefused 2.c11 COLLIDE 1\nrefused 2.c11 COLLIDE 1\nrefused 2.c11 COLLIDE 1\nrefused 1.c6 NO_INIT\nrefused 2.c2 BAD_MEMBER_TOKEN\nrefused 2.c11 COLLIDE 1\nrefused 2.c11 COLLIDE 1\ndown 2\nrefused 1.c6 NO_INIT\n"
unfolding all_opens
asked_level_08 = refl

pub asked_plain_01 : transcript (codes "") (codes "mode asked\nnode 1\nnode 2\nadapter 1 1 10.1.0.9\nadapter 1 3 10.3.0.11\nadapter 2 1 10.1.0.16\nadapter 2 3 10.3.0.18\nadapter 2 4 10.4.0.19\nbegin\nstart 1\nstart 2\nask 1 1 2\nflow\nclient 1 c1 A\njoin c1 a 3 batch=joins limit=3\nflow\nclient 1 c2 A\njoin c2 a 1 batch=joins limit=3\nflow\nclient 1 c3 A\njoin c3 db 1 limit=5 phases=n source=disk sphases=n\nflow\nclient 2 c4 -,A,A\njoin c4 disk 1 default=approve limit=0\nflow\nclient 2 c5 R,R,C\njoin c5 disk 2 default=approve limit=0\nflow\nclient 1 c6 R,A,A\njoin c6 z 3 limit=2 phases=n\nflow\nclient 2 c7 A,-\njoin c7 z 3 limit=2 phases=n\nflow\nrun 3\nexpel c2 a n 1.1.3.1 1.1.1.2\ndeliver 2 2 20\ndeliver 1 2 18\nmessage c1 a n hi\ndeliver 1 1 13\ndeliver 1 1 14\nflow\nattrs c4 disk n default=approve limit=0\ngoodbye c7\ndeliver 2 2 16\ndeliver 2 2 19\ndeliver 1 1 12\ndeliver 1 1 3\ndeliver 1 2 24\ndeliver 2 2 3\ndeliver 2 1 16\ndeliver 2 1 16\ndrop 2 1\ndrop 2 2\nstop 2\ndeliver 1 2 14\ndeliver 1 2 15\nstate c4 disk 1 wwwwwwwwwwwwwwwwwwwwwwwwwwwwwwwwwwwwwwwwwwwwwwwwwwwwwwwwwwwwwwwwwwwwwwwwwwwwwwwwwwwwwwwwwwwwwwwwwwwwwwwwwwwwwwwwwwwwwwwwwwwwwwwwwwwwwwwwwwwwwwwwwwwwwwwwwwwwwwwwwwwwwwwwwwwwwwwwwwwwwwwwwwwwwwwwwwwwwwwwwwwwwwwwwwwwwwwwwwwwwwwwwwwwwwwwwwwwwwwwwwwwwwwwwwwwwwwwwwwwwwwwwwwwwwwwwwwwwwwwwwwwwwwwwwwwwwwwwwww\nrun 2\nexpel c7 z 1 2.2.1.3\njoin c1 db 1 limit=5 phases=n source=disk sphases=n\ndeliver 1 1 16\ndeliver 1 1 16\ndeliver 1 1 16\ndeliver 1 1 16\ndeliver 1 1 16\nstate c1 db n up\nmessage c1 db n x=1\ntick 2\ndeliver 1 1 20\nrun 2\ndrop 2 1\nclient 1 c8 A\njoin c8 z 3 limit=2 phases=n\njoin c1 disk 1 default=approve limit=0\nexpel c1 disk 1 2.1.1.1\ndeliver 1 2 24\ndeliver 1 1 22\ndeliver 1 2 24\ndeliver 1 2 24\ndeliver 1 1 23\ntick 2\ndeliver 1 2 24\ndeliver 1 2 24\ndeliver 1 2 24\nattrs c8 z n limit=2 phases=n\n") ≡ codes "up 1 1\nin 1 1.1.1 1.1\nup 2 1\nin 2 1.2.1 2.1\nin 1 2.1.1 1.1,2.1\nin 2 2.1.1 1.1,2.1\nasked 1.1.3.1 1 a join\nput 1 2.1.1 a 0 once join 1.1.3.1 batch=joins limit=3\nheard 1.1.3.1 2.1.1 a 0 once-join 1.1.3.1 =\nput 2 2.1.1 a 0 once join 1.1.3.1 batch=joins limit=3\nasked 1.1.1.2 2 a join\nput 1 2.1.1 a 1 once join 1.1.1.2 batch=joins limit=3\nheard 1.1.3.1 2.1.1 a 1 once-join 1.1.3.1,1.1.1.2 =\nheard 1.1.1.2 2.1.1 a 1 once-join 1.1.3.1,1.1.1.2 =\nput 2 2.1.1 a 1 once join 1.1.1.2 batch=joins limit=3\nasked 1.1.1.3 3 db join\ntold 1.1.1.3 3 NO_SOURCE_GROUP_PROVIDER 0\nasked 2.1.1.1 1 disk join\nput 2 2.1.1 disk 0 once join 2.1.1.1\nheard 2.1.1.1 2.1.1 disk 0 once-join 2.1.1.1 =\nput 1 2.1.1 disk 0 once join 2.1.1.1\nasked 2.1.2.2 2 disk join\nput 2 2.1.1 disk 1 once join 2.1.2.2\nheard 2.1.1.1 2.1.1 disk 1 once-join 2.1.1.1,2.1.2.2 =\nheard 2.1.2.2 2.1.1 disk 1 once-join 2.1.1.1,2.1.2.2 =\nput 1 2.1.1 disk 1 once join 2.1.2.2\nasked 1.1.3.4 4 z join\nput 1 2.1.1 z 0 begin join 1.1.3.4 phases=n limit=2\nheard 1.1.3.4 2.1.1 z 0 begin-join - =\ncast 1.1.3.4 2.1.1/0 1 R\nput 2 2.1.1 z 0 begin join 1.1.3.4 phases=n limit=2\nput 1 2.1.1 z 1 reject 2.1.1/0 1 1.1.3.4=R\nheard 1.1.3.4 2.1.1 z 1 reject - =\nput 2 2.1.1 z 1 reject 2.1.1/0 1 1.1.3.4=R\nasked 2.1.3.3 3 z join\nput 1 2.1.1 z 2 begin join 2.1.3.3 phases=n limit=2\nput 2 2.1.1 z 2 begin join 2.1.3.3 phases=n limit=2\nheard 2.1.3.3 2.1.1 z 2 begin-join - =\ncast 2.1.3.3 2.1.1/2 1 A\nput 1 2.1.1 z 3 approve 2.1.1/2 1 2.1.3.3=A -\nput 2 2.1.1 z 3 approve 2.1.1/2 1 2.1.3.3=A -\nheard 2.1.3.3 2.1.1 z 3 approve 2.1.3.3 =\nasked 1.1.1.2 5 a expel\nasked 1.1.3.1 6 a message\nput 1 2.1.1 a 2 begin expel 1.1.1.2/5 1.1.3.1,1.1.1.2\nheard 1.1.3.1 2.1.1 a 2 begin-expel 1.1.3.1,1.1.1.2 =\nheard 1.1.1.2 2.1.1 a 2 begin-expel 1.1.3.1,1.1.1.2 =\nput 1 2.1.1 a 3 approve 2.1.1/2 1 - -\nheard 1.1.3.1 2.1.1 a 3 approve - =\nheard 1.1.1.2 2.1.1 a 3 approve - =\nput 2 2.1.1 a 2 begin expel 1.1.1.2/5 1.1.3.1,1.1.1.2\nput 2 2.1.1 a 3 approve 2.1.1/2 1 - -\nasked 2.1.1.1 4 disk attrs\nput 2 2.1.1 disk 2 begin attrs 2.1.1.1/4\nheard 2.1.1.1 2.1.1 disk 2 begin-attrs 2.1.1.1,2.1.2.2 =\nheard 2.1.2.2 2.1.1 disk 2 begin-attrs 2.1.1.1,2.1.2.2 =\ncast 2.1.2.2 2.1.1/2 1 R\nput 1 2.1.1 z 4 begin fail 2.1.3.3:gone\nput 1 2.1.1 z 5 approve 2.1.1/4 1 - -\ndown 2\nrefused 2.c4 NO_INIT\nrefused 2.c7 NO_INIT\nasked 1.1.1.7 7 db join\nrefused 1.c1 COLLIDE 7\nrefused 1.c1 COLLIDE 7\ntold 1.1.1.7 7 NO_SOURCE_GROUP_PROVIDER 2\nasked 1.1.3.8 8 z join\nasked 1.1.1.9 9 disk join\nrefused 1.c1 COLLIDE 9\nput 1 2.1.1 z 6 begin join 1.1.3.8 phases=n limit=2\nheard 1.1.3.8 2.1.1 z 6 begin-join - =\ncast 1.1.3.8 2.1.1/6 1 A\nput 1 2.1.1 z 7 approve 2.1.1/6 1 1.1.3.8=A -\nheard 1.1.3.8 2.1.1 z 7 approve 1.1.3.8 =\nasked 1.1.3.8 10 z attrs\n"
unfolding all_opens
asked_plain_01 = refl

pub asked_plain_05 : transcript (codes "") (codes "mode asked\nnode 1\nnode 2\nnode 3\nnode 4\nbegin\nstart 1\nstart 2\nstart 3\nstart 4\nask 1 1 2 3 4\nflow\nclient 4 c1 A\njoin c1 disk 3 batch=failures\nflow\nclient 1 c2 A\njoin c2 db 2 batch=none phases=n slimit=2 source=disk limit=3 sphases=n\nflow\nclient 3 c3 -,-\njoin c3 disk 1 batch=failures\nflow\nclient 1 c4 A\njoin c4 disk 3 batch=failures\nflow\nclient 1 c5 R\njoin c5 disk 2 batch=failures\nflow\ntick 1\ndeliver 3 3 5\ndeliver 3 2 10\ndeliver 4 4 17\nmessage c1 disk n hi\nstate c4 disk 1 ~\nstate c4 disk 1 wwwwwwwwwwwwwwwwwwwwwwwwwwwwwwwwwwwwwwwwwwwwwwwwwwwwwwwwwwwwwwwwwwwwwwwwwwwwwwwwwwwwwwwwwwwwwwwwwwwwwwwwwwwwwwwwwwwwwwwwwwwwwwwwwwwwwwwwwwwwwwwwwwwwwwwwwwwwwwwwwwwwwwwwwwwwwwwwwwwwwwwwwwwwwwwwwwwwwwwwwwwwwwwwwwwwwwwwwwwwwwwwwwwwwwwwwwwwwwwwwwwwwwwwwwwwwwwwwwwwwwwwwwwwwwwwwwwwwwwwwwwwwwwwwwwwwwwwwwww\ndeliver 1 4 10\ndeliver 4 4 2\ndeliver 1 4 10\ndeliver 1 4 10\ndeliver 4 4 3\ndeliver 4 4 3\ndeliver 4 2 5\nleave c4 disk n\nmessage c4 disk 1 ~\ndeliver 4 1 8\nrun 2\ntick 3\ndeliver 4 1 23\ndeliver 2 4 12\ndeliver 1 3 25\nflow\nclient 4 c6 A\nleave c4 disk n\nvote c1 disk C=v\nask 4 1 2 4\nflow\ntick 1\nstate c1 disk 1 red\nshow 2 hagsvote\nleave c4 disk 1\nsubscribe c5 db\ndrop 4 4\nstart 1\nstate c3 disk 1 %25\ndeliver 1 4 27\ndeliver 3 4 10\ndeliver 3 4 10\ndeliver 3 4 10\nstate c1 disk n ~\nstate c4 disk 1 ~\nattrs c1 disk n batch=failures\ndeliver 4 1 17\ndeliver 4 1 17\ndeliver 4 1 17\ndeliver 4 2 13\ndeliver 4 1 17\nleave c5 disk 1\nleave c4 disk 1\ndeliver 1 4 31\ndeliver 2 4 13\ndeliver 2 4 13\nstate c3 disk 1 up\nexpel c5 disk n 4.1.3.1 1.1.2.3\nrun 2\nstate c3 disk n red\nflow\nmessage c1 disk n x=1\ndeliver 4 4 9\ndeliver 4 4 9\ndeliver 4 4 9\nflow\n") ≡ codes "up 1 1\nin 1 1.1.1 1.1\nup 2 1\nin 2 1.2.1 2.1\nup 3 1\nin 3 1.3.1 3.1\nup 4 1\nin 4 1.4.1 4.1\nin 1 2.1.1 1.1,2.1,3.1,4.1\nin 2 2.1.1 1.1,2.1,3.1,4.1\nin 3 2.1.1 1.1,2.1,3.1,4.1\nin 4 2.1.1 1.1,2.1,3.1,4.1\nasked 4.1.3.1 1 disk join\nput 4 2.1.1 disk 0 once join 4.1.3.1 batch=failures\nheard 4.1.3.1 2.1.1 disk 0 once-join 4.1.3.1 =\nput 1 2.1.1 disk 0 once join 4.1.3.1 batch=failures\nput 2 2.1.1 disk 0 once join 4.1.3.1 batch=failures\nput 3 2.1.1 disk 0 once join 4.1.3.1 batch=failures\nasked 1.1.2.1 1 db join\ntold 1.1.2.1 1 NO_SOURCE_GROUP_PROVIDER 1\nasked 3.1.1.1 1 disk join\nput 4 2.1.1 disk 1 once join 3.1.1.1 batch=failures\nheard 4.1.3.1 2.1.1 disk 1 once-join 4.1.3.1,3.1.1.1 =\nput 1 2.1.1 disk 1 once join 3.1.1.1 batch=failures\nput 2 2.1.1 disk 1 once join 3.1.1.1 batch=failures\nput 3 2.1.1 disk 1 once join 3.1.1.1 batch=failures\nheard 3.1.1.1 2.1.1 disk 1 once-join 4.1.3.1,3.1.1.1 =\nasked 1.1.3.2 2 disk join\nput 4 2.1.1 disk 2 once join 1.1.3.2 batch=failures\nheard 4.1.3.1 2.1.1 disk 2 once-join 4.1.3.1,3.1.1.1,1.1.3.2 =\nput 1 2.1.1 disk 2 once join 1.1.3.2 batch=failures\nheard 1.1.3.2 2.1.1 disk 2 once-join 4.1.3.1,3.1.1.1,1.1.3.2 =\nput 2 2.1.1 disk 2 once join 1.1.3.2 batch=failures\nput 3 2.1.1 disk 2 once join 1.1.3.2 batch=failures\nheard 3.1.1.1 2.1.1 disk 2 once-join 4.1.3.1,3.1.1.1,1.1.3.2 =\nasked 1.1.2.3 3 disk join\nput 4 2.1.1 disk 3 once join 1.1.2.3 batch=failures\nheard 4.1.3.1 2.1.1 disk 3 once-join 4.1.3.1,3.1.1.1,1.1.3.2,1.1.2.3 =\nput 1 2.1.1 disk 3 once join 1.1.2.3 batch=failures\nheard 1.1.3.2 2.1.1 disk 3 once-join 4.1.3.1,3.1.1.1,1.1.3.2,1.1.2.3 =\nheard 1.1.2.3 2.1.1 disk 3 once-join 4.1.3.1,3.1.1.1,1.1.3.2,1.1.2.3 =\nput 2 2.1.1 disk 3 once join 1.1.2.3 batch=failures\nput 3 2.1.1 disk 3 once join 1.1.2.3 batch=failures\nheard 3.1.1.1 2.1.1 disk 3 once-join 4.1.3.1,3.1.1.1,1.1.3.2,1.1.2.3 =\nasked 4.1.3.1 2 disk message\nasked 1.1.3.2 4 disk state\nrefused 1.c4 BAD_PARAMETER value\nput 4 2.1.1 disk 4 once state 1.1.3.2/4 =\nheard 4.1.3.1 2.1.1 disk 4 once-state 4.1.3.1,3.1.1.1,1.1.3.2,1.1.2.3 =\nput 4 2.1.1 disk 5 begin message 4.1.3.1/2 =hi\nheard 4.1.3.1 2.1.1 disk 5 begin-message 4.1.3.1,3.1.1.1,1.1.3.2,1.1.2.3 =\ncast 4.1.3.1 2.1.1/5 1 A\nput 2 2.1.1 disk 4 once state 1.1.3.2/4 =\nrefused 1.c4 COLLIDE 4\nrefused 1.c4 COLLIDE 4\nput 1 2.1.1 disk 4 once state 1.1.3.2/4 =\nheard 1.1.3.2 2.1.1 disk 4 once-state 4.1.3.1,3.1.1.1,1.1.3.2,1.1.2.3 =\nheard 1.1.2.3 2.1.1 disk 4 once-state 4.1.3.1,3.1.1.1,1.1.3.2,1.1.2.3 =\nput 3 2.1.1 disk 4 once state 1.1.3.2/4 =\nheard 3.1.1.1 2.1.1 disk 4 once-state 4.1.3.1,3.1.1.1,1.1.3.2,1.1.2.3 =\nput 1 2.1.1 disk 5 begin message 4.1.3.1/2 =hi\nheard 1.1.3.2 2.1.1 disk 5 begin-message 4.1.3.1,3.1.1.1,1.1.3.2,1.1.2.3 =\ncast 1.1.3.2 2.1.1/5 1 A\nheard 1.1.2.3 2.1.1 disk 5 begin-message 4.1.3.1,3.1.1.1,1.1.3.2,1.1.2.3 =\ncast 1.1.2.3 2.1.1/5 1 R\nput 2 2.1.1 disk 5 begin message 4.1.3.1/2 =hi\nput 3 2.1.1 disk 5 begin message 4.1.3.1/2 =hi\nheard 3.1.1.1 2.1.1 disk 5 begin-message 4.1.3.1,3.1.1.1,1.1.3.2,1.1.2.3 =\nasked 1.1.3.2 5 disk leave\nrefused 4.c1 VOTE_NOT_EXPECTED\nin 4 3.4.1 1.1,2.1,4.1\nbase 4 3.4.1 disk 2.1.1 6 4.1.3.1,3.1.1.1,1.1.3.2,1.1.2.3 = 3.1.1.1 2.1.1/5:1\nin 1 3.4.1 1.1,2.1,4.1\nbase 1 3.4.1 disk 2.1.1 6 4.1.3.1,3.1.1.1,1.1.3.2,1.1.2.3 = 3.1.1.1 2.1.1/5:1\nin 2 3.4.1 1.1,2.1,4.1\nbase 2 3.4.1 disk 2.1.1 6 4.1.3.1,3.1.1.1,1.1.3.2,1.1.2.3 = 3.1.1.1 2.1.1/5:1\nput 4 3.4.1 disk 0 reject 2.1.1/5 1 4.1.3.1=A,3.1.1.1=FA,1.1.3.2=A,1.1.2.3=R\nheard 4.1.3.1 3.4.1 disk 0 reject 4.1.3.1,3.1.1.1,1.1.3.2,1.1.2.3 =\nput 4 3.4.1 disk 1 once fail 3.1.1.1:died\nheard 4.1.3.1 3.4.1 disk 1 once-fail 4.1.3.1,1.1.3.2,1.1.2.3 =\ntold 1.1.3.2 5 COLLIDE 2.1.1/5\nput 1 3.4.1 disk 0 reject 2.1.1/5 1 4.1.3.1=A,3.1.1.1=FA,1.1.3.2=A,1.1.2.3=R\nheard 1.1.3.2 3.4.1 disk 0 reject 4.1.3.1,3.1.1.1,1.1.3.2,1.1.2.3 =\nheard 1.1.2.3 3.4.1 disk 0 reject 4.1.3.1,3.1.1.1,1.1.3.2,1.1.2.3 =\nput 2 3.4.1 disk 0 reject 2.1.1/5 1 4.1.3.1=A,3.1.1.1=FA,1.1.3.2=A,1.1.2.3=R\nput 1 3.4.1 disk 1 once fail 3.1.1.1:died\nheard 1.1.3.2 3.4.1 disk 1 once-fail 4.1.3.1,1.1.3.2,1.1.2.3 =\nheard 1.1.2.3 3.4.1 disk 1 once-fail 4.1.3.1,1.1.3.2,1.1.2.3 =\nput 2 3.4.1 disk 1 once fail 3.1.1.1:died\nasked 4.1.3.1 3 disk state\nasked 1.1.3.2 6 disk leave\nrefused 1.c5 UNKNOWN_GROUP\nasked 3.1.1.1 2 disk state\nput 4 3.4.1 disk 2 once leave 1.1.3.2/6\nheard 4.1.3.1 3.4.1 disk 2 once-leave 4.1.3.1,1.1.2.3 =\nrefused 4.c1 COLLIDE 3\nrefused 1.c4 COLLIDE 6\nrefused 4.c1 COLLIDE 3\nput 1 3.4.1 disk 2 once leave 1.1.3.2/6\nheard 1.1.3.2 3.4.1 disk 2 once-leave 4.1.3.1,1.1.2.3 =\nheard 1.1.2.3 3.4.1 disk 2 once-leave 4.1.3.1,1.1.2.3 =\nput 2 3.4.1 disk 2 once leave 1.1.3.2/6\nasked 1.1.2.3 7 disk leave\nrefused 1.c4 BAD_MEMBER_TOKEN\nrefused 3.c3 COLLIDE 2\nrefused 1.c5 COLLIDE 7\nput 4 3.4.1 disk 3 once leave 1.1.2.3/7\nheard 4.1.3.1 3.4.1 disk 3 once-leave 4.1.3.1 =\nput 4 3.4.1 disk 4 once state 4.1.3.1/3 =red\nheard 4.1.3.1 3.4.1 disk 4 once-state 4.1.3.1 =red\nput 1 3.4.1 disk 3 once leave 1.1.2.3/7\nheard 1.1.2.3 3.4.1 disk 3 once-leave 4.1.3.1 =\nput 2 3.4.1 disk 3 once leave 1.1.2.3/7\nput 1 3.4.1 disk 4 once state 4.1.3.1/3 =red\nput 2 3.4.1 disk 4 once state 4.1.3.1/3 =red\nrefused 3.c3 COLLIDE 2\nasked 4.1.3.1 4 disk message\nput 4 3.4.1 disk 5 begin message 4.1.3.1/4 =x=1\nheard 4.1.3.1 3.4.1 disk 5 begin-message 4.1.3.1 =red\ncast 4.1.3.1 3.4.1/5 1 A\nput 1 3.4.1 disk 5 begin message 4.1.3.1/4 =x=1\nput 2 3.4.1 disk 5 begin message 4.1.3.1/4 =x=1\nput 4 3.4.1 disk 6 approve 3.4.1/5 1 4.1.3.1=A -\nheard 4.1.3.1 3.4.1 disk 6 approve 4.1.3.1 =red\nput 1 3.4.1 disk 6 approve 3.4.1/5 1 4.1.3.1=A -\nput 2 3.4.1 disk 6 approve 3.4.1/5 1 4.1.3.1=A -\n"
unfolding all_opens
asked_plain_05 = refl

pub asked_plain_10 : transcript (codes "") (codes "mode asked\nnode 1\nnode 2\nnode 3\nnode 4\nnode 5\nadapter 1 1 10.1.0.9\nadapter 1 2 10.2.0.10\nadapter 2 1 10.1.0.16\nadapter 2 3 10.3.0.18\nadapter 3 1 10.1.0.23\nadapter 3 2 10.2.0.24\nadapter 4 1 10.1.0.30\nadapter 4 3 10.3.0.32\nadapter 4 4 10.4.0.33\nadapter 5 1 10.1.0.37\nadapter 5 2 10.2.0.38\nbegin\nstart 1\nstart 2\nstart 3\nstart 4\nstart 5\nclient 4 c1 R=%00,-,-\njoin c1 a 2 limit=5 phases=n\nflow\nclient 2 c2 A\njoin c2 disk 1 default=reject limit=5 phases=n\nflow\nclient 3 c3 A\njoin c3 disk 1 phases=n default=reject\nclient 2 c4 -\njoin c4 z 2 default=reject batch=joins limit=5 phases=n\nflow\nclient 1 c5 C,A\njoin c5 a 3 limit=5 phases=n\nflow\nclient 1 c6 A\njoin c6 disk 1 limit=4 default=reject\nflow\nclient 5 c7 R=x\njoin c7 disk 1 default=reject limit=5 phases=n\nflow\nattrs c2 disk n default=reject limit=5 phases=n\nattrs c2 disk n limit=3\ndeliver 2 2 8\ndeliver 2 2 8\ndeliver 2 2 8\nvote c4 z R\nvote c2 disk A\nleave c6 disk n\nrun 3\nmessage c5 a n hi\nleave c2 disk n\nflow\nattrs c5 a n limit=5 phases=n\nmessage c3 disk 1 hi\ngoodbye c3\ndrop 3 3\nmessage c5 a n x=1\nstate c5 a n red\nask 5 1 2 3 4 5\nflow\nstate c5 a 1 wwwwwwwwwwwwwwwwwwwwwwwwwwwwwwwwwwwwwwwwwwwwwwwwwwwwwwwwwwwwwwwwwwwwwwwwwwwwwwwwwwwwwwwwwwwwwwwwwwwwwwwwwwwwwwwwwwwwwwwwwwwwwwwwwwwwwwwwwwwwwwwwwwwwwwwwwwwwwwwwwwwwwwwwwwwwwwwwwwwwwwwwwwwwwwwwwwwwwwwwwwwwwwwwwwwwwwwwwwwwwwwwwwwwwwwwwwwwwwwwwwwwwwwwwwwwwwwwwwwwwwwwwwwwwwwwwwwwwwwwwwwwwwwwwwwwwwwwwwww\nmessage c5 a 1 x=1\njoin c1 z 2 default=reject batch=joins limit=5 phases=n\nstop 2\ndrop 1 1\nmessage c1 z n hi\ndeliver 4 5 3\ndeliver 4 5 3\nstop 3\nstop 4\njoin c6 z 2 default=reject batch=joins limit=5 phases=n\ndeliver 5 4 4\ndeliver 5 4 3\ndeliver 1 5 5\ndeliver 5 4 4\ndeliver 5 4 3\ntick 2\nsubscribe c6 z\njoin c7 z 1 default=reject batch=joins limit=5 phases=n\nrun 1\ntick 3\nexpel c6 z 1 1.1.3.6\nflow\ndeliver 5 1 25\ndeliver 3 4 2\nstate c7 z 1 ~\nrun 2\nflow\nrun 4\nstate c5 a n ~\nvote c1 z A\nrun 4\nrun 1\nsubscribe c7 a\nrun 4\ndeliver 1 3 24\ndeliver 2 3 8\ndeliver 4 3 25\nrun 1\nrun 3\nstart 4\ndeliver 4 3 11\ndeliver 1 5 1\ndeliver 3 5 5\ndeliver 5 1 14\nmessage c6 z 1 hi\nflow\nrun 4\ndeliver 2 4 1\ngoodbye c5\nleave c7 z n\nclient 3 c8 -,A,-\njoin c8 db 2 limit=2 source=disk sphases=n\nexpel c3 disk n 3.1.3.1 3.1.1.3\nflow\ngoodbye c6\nattrs c7 z n default=reject batch=joins limit=5 phases=n\nmessage c7 z n x=1\njoin c7 db 2 limit=2 source=disk sphases=n\nattrs c7 z n default=reject batch=joins limit=5 phases=n\nask 5 5\ndeliver 5 5 10\ndeliver 5 5 10\ndeliver 5 5 9\ndeliver 5 5 11\ndeliver 1 4 104\nrun 1\nstart 4\ndrop 5 1\nflow\ngoodbye c2\njoin c2 z 2 default=reject batch=joins limit=5 phases=n\nexpel c1 z n 1.1.3.1 1.2.2.3\nrun 5\ndeliver 4 1 26\nattrs c7 db n slimit=2 default=reject limit=4 sphases=n source=disk\nflow\nflow\ndeliver 4 1 16\ndeliver 4 1 10\nstart 3\nclient 2 c9 -\nstop 1\nclient 3 c10 R=x,C\njoin c10 db 1 limit=2 source=disk sphases=n\nmessage c10 db n x=1\nflow\ndeliver 3 2 7\ngoodbye c1\nclient 5 c11 A,A=%00\njoin c11 disk 3 default=reject limit=5 phases=n\ndeliver 3 1 16\ndeliver 2 4 24\nleave c11 disk 1\ndeliver 5 5 23\ndeliver 5 5 23\ndeliver 5 5 23\nvote c11 disk A\nsubscribe c11 disk\ndeliver 5 5 24\ndeliver 5 5 24\ndeliver 5 5 24\ngoodbye c11\nexpel c1 z n 4.1.1.3\nclient 4 c12 A\njoin c12 disk 2 default=reject limit=5 phases=n\nask 3 1 2 3 4\ndeliver 2 3 17\ndeliver 1 5 13\ndeliver 1 5 29\ndeliver 4 2 25\n") ≡ codes "up 1 1\nin 1 1.1.1 1.1\nup 2 1\nin 2 1.2.1 2.1\nup 3 1\nin 3 1.3.1 3.1\nup 4 1\nin 4 1.4.1 4.1\nup 5 1\nin 5 1.5.1 5.1\nasked 4.1.2.1 1 a join\nput 4 1.4.1 a 0 begin join 4.1.2.1 phases=n limit=5\nheard 4.1.2.1 1.4.1 a 0 begin-join - =\ncast 4.1.2.1 1.4.1/0 1 R=%00\nput 4 1.4.1 a 1 reject 1.4.1/0 1 4.1.2.1=R\nheard 4.1.2.1 1.4.1 a 1 reject - =\nasked 2.1.1.1 1 disk join\nput 2 1.2.1 disk 0 begin join 2.1.1.1 phases=n default=reject limit=5\nheard 2.1.1.1 1.2.1 disk 0 begin-join - =\ncast 2.1.1.1 1.2.1/0 1 A\nput 2 1.2.1 disk 1 approve 1.2.1/0 1 2.1.1.1=A -\nheard 2.1.1.1 1.2.1 disk 1 approve 2.1.1.1 =\nasked 3.1.1.1 1 disk join\nasked 2.1.2.2 2 z join\nput 3 1.3.1 disk 0 begin join 3.1.1.1 phases=n default=reject\nheard 3.1.1.1 1.3.1 disk 0 begin-join - =\ncast 3.1.1.1 1.3.1/0 1 A\nput 2 1.2.1 z 0 begin join 2.1.2.2 phases=n batch=joins default=reject limit=5\nheard 2.1.2.2 1.2.1 z 0 begin-join - =\nput 3 1.3.1 disk 1 approve 1.3.1/0 1 3.1.1.1=A -\nheard 3.1.1.1 1.3.1 disk 1 approve 3.1.1.1 =\nasked 1.1.3.1 1 a join\nput 1 1.1.1 a 0 begin join 1.1.3.1 phases=n limit=5\nheard 1.1.3.1 1.1.1 a 0 begin-join - =\ncast 1.1.3.1 1.1.1/0 1 C\nput 1 1.1.1 a 1 phase 1.1.1/0 1 1.1.3.1=C -\nheard 1.1.3.1 1.1.1 a 1 phase - =\ncast 1.1.3.1 1.1.1/0 2 A\nput 1 1.1.1 a 2 approve 1.1.1/0 2 1.1.3.1=A -\nheard 1.1.3.1 1.1.1 a 2 approve 1.1.3.1 =\nasked 1.1.1.2 2 disk join\nput 1 1.1.1 disk 0 once join 1.1.1.2 default=reject limit=4\nheard 1.1.1.2 1.1.1 disk 0 once-join 1.1.1.2 =\nasked 5.1.1.1 1 disk join\nput 5 1.5.1 disk 0 begin join 5.1.1.1 phases=n default=reject limit=5\nheard 5.1.1.1 1.5.1 disk 0 begin-join - =\ncast 5.1.1.1 1.5.1/0 1 R=x\nput 5 1.5.1 disk 1 reject 1.5.1/0 1 5.1.1.1=R\nheard 5.1.1.1 1.5.1 disk 1 reject - =\nasked 2.1.1.1 3 disk attrs\nrefused 2.c2 COLLIDE 3\nput 2 1.2.1 disk 2 begin attrs 2.1.1.1/3 phases=n default=reject limit=5\nheard 2.1.1.1 1.2.1 disk 2 begin-attrs 2.1.1.1 =\ncast 2.1.1.1 1.2.1/2 1 A\ncast 2.1.2.2 1.2.1/0 1 R\nrefused 2.c2 VOTE_NOT_EXPECTED\nasked 1.1.1.2 3 disk leave\nput 2 1.2.1 disk 3 approve 1.2.1/2 1 2.1.1.1=A -\nheard 2.1.1.1 1.2.1 disk 3 approve 2.1.1.1 =\nput 2 1.2.1 z 1 reject 1.2.1/0 1 2.1.2.2=R\nheard 2.1.2.2 1.2.1 z 1 reject - =\nput 1 1.1.1 disk 1 begin leave 1.1.1.2/3\nheard 1.1.1.2 1.1.1 disk 1 begin-leave 1.1.1.2 =\nput 1 1.1.1 disk 2 approve 1.1.1/1 1 - -\nheard 1.1.1.2 1.1.1 disk 2 approve - =\nasked 1.1.3.1 4 a message\nasked 2.1.1.1 4 disk leave\nput 1 1.1.1 a 3 begin message 1.1.3.1/4 =hi\nheard 1.1.3.1 1.1.1 a 3 begin-message 1.1.3.1 =\ncast 1.1.3.1 1.1.1/3 1 C\nput 2 1.2.1 disk 4 begin leave 2.1.1.1/4\nheard 2.1.1.1 1.2.1 disk 4 begin-leave 2.1.1.1 =\nput 2 1.2.1 disk 5 approve 1.2.1/4 1 - -\nheard 2.1.1.1 1.2.1 disk 5 approve - =\nput 1 1.1.1 a 4 phase 1.1.1/3 1 1.1.3.1=C -\nheard 1.1.3.1 1.1.1 a 4 phase 1.1.3.1 =\ncast 1.1.3.1 1.1.1/3 2 A\nput 1 1.1.1 a 5 approve 1.1.1/3 2 1.1.3.1=A -\nheard 1.1.3.1 1.1.1 a 5 approve 1.1.3.1 =\nasked 1.1.3.1 5 a attrs\nasked 3.1.1.1 2 disk message\nrefused 1.c5 COLLIDE 5\nrefused 1.c5 COLLIDE 5\nput 1 1.1.1 a 6 begin attrs 1.1.3.1/5 phases=n limit=5\nheard 1.1.3.1 1.1.1 a 6 begin-attrs 1.1.3.1 =\ncast 1.1.3.1 1.1.1/6 1 C\nin 5 2.5.1 1.1,2.1,3.1,4.1,5.1\nbase 5 2.5.1 a 1.1.1 7 1.1.3.1 = - 1.1.1/6:1\nbase 5 2.5.1 disk 1.3.1 2 3.1.1.1 = - -\nin 1 2.5.1 1.1,2.1,3.1,4.1,5.1\nbase 1 2.5.1 a 1.1.1 7 1.1.3.1 = - 1.1.1/6:1\nbase 1 2.5.1 disk 1.3.1 2 3.1.1.1 = - -\nin 2 2.5.1 1.1,2.1,3.1,4.1,5.1\nbase 2 2.5.1 a 1.1.1 7 1.1.3.1 = - 1.1.1/6:1\nbase 2 2.5.1 disk 1.3.1 2 3.1.1.1 = - -\nin 3 2.5.1 1.1,2.1,3.1,4.1,5.1\nbase 3 2.5.1 a 1.1.1 7 1.1.3.1 = - 1.1.1/6:1\nbase 3 2.5.1 disk 1.3.1 2 3.1.1.1 = - -\nin 4 2.5.1 1.1,2.1,3.1,4.1,5.1\nbase 4 2.5.1 a 1.1.1 7 1.1.3.1 = - 1.1.1/6:1\nbase 4 2.5.1 disk 1.3.1 2 3.1.1.1 = - -\nput 1 2.5.1 a 0 phase 1.1.1/6 1 1.1.3.1=C -\nheard 1.1.3.1 2.5.1 a 0 phase 1.1.3.1 =\ncast 1.1.3.1 1.1.1/6 2 A\nput 2 2.5.1 a 0 phase 1.1.1/6 1 1.1.3.1=C -\nput 3 2.5.1 a 0 phase 1.1.1/6 1 1.1.3.1=C -\nput 4 2.5.1 a 0 phase 1.1.1/6 1 1.1.3.1=C -\nput 5 2.5.1 a 0 phase 1.1.1/6 1 1.1.3.1=C -\nput 1 2.5.1 a 1 approve 1.1.1/6 2 1.1.3.1=A -\nheard 1.1.3.1 2.5.1 a 1 approve 1.1.3.1 =\nput 2 2.5.1 a 1 approve 1.1.1/6 2 1.1.3.1=A -\nput 3 2.5.1 a 1 approve 1.1.1/6 2 1.1.3.1=A -\nput 4 2.5.1 a 1 approve 1.1.1/6 2 1.1.3.1=A -\nput 5 2.5.1 a 1 approve 1.1.1/6 2 1.1.3.1=A -\nrefused 1.c5 BAD_PARAMETER value\nasked 1.1.3.1 6 a message\nasked 4.1.2.2 2 z join\ndown 2\nrefused 4.c1 COLLIDE 2\ndown 3\ndown 4\nasked 1.1.2.7 7 z join\nrefused 1.c6 UNKNOWN_GROUP\nasked 5.1.1.2 2 z join\nput 1 2.5.1 a 2 once message 1.1.3.1/6 =x=1\nheard 1.1.3.1 2.5.1 a 2 once-message 1.1.3.1 =\nput 5 2.5.1 a 2 once message 1.1.3.1/6 =x=1\nrefused 1.c6 COLLIDE 7\nrefused 5.c7 COLLIDE 2\nasked 1.1.3.1 8 a state\nrefused 4.c1 NO_INIT\nput 1 2.5.1 a 3 begin state 1.1.3.1/8 =\nheard 1.1.3.1 2.5.1 a 3 begin-state 1.1.3.1 =\ncast 1.1.3.1 2.5.1/3 1 C\nput 5 2.5.1 a 3 begin state 1.1.3.1/8 =\nput 1 2.5.1 a 4 phase 2.5.1/3 1 1.1.3.1=C -\nheard 1.1.3.1 2.5.1 a 4 phase 1.1.3.1 =\ncast 1.1.3.1 2.5.1/3 2 A\nput 5 2.5.1 a 4 phase 2.5.1/3 1 1.1.3.1=C -\nput 1 2.5.1 a 5 approve 2.5.1/3 2 1.1.3.1=A -\nheard 1.1.3.1 2.5.1 a 5 approve 1.1.3.1 =\nput 5 2.5.1 a 5 approve 2.5.1/3 2 1.1.3.1=A -\nup 4 2\nin 4 1.4.2 4.2\nrefused 1.c6 COLLIDE 7\nrefused 5.c7 COLLIDE 2\nrefused 3.c8 NO_INIT\nrefused 3.c8 NO_INIT\nrefused 3.c3 NO_INIT\nput 1 2.5.1 a 6 begin fail 1.1.3.1:gone\nput 1 2.5.1 a 7 approve 2.5.1/6 1 - -\nput 5 2.5.1 a 6 begin fail 1.1.3.1:gone\nput 5 2.5.1 a 7 approve 2.5.1/6 1 - -\nnoted 5.c7 2.5.1 a 7 - =\nrefused 5.c7 COLLIDE 2\nrefused 5.c7 COLLIDE 2\nasked 5.1.2.3 3 db join\nrefused 5.c7 COLLIDE 2\nin 5 3.5.1 5.1\nbase 5 3.5.1 disk 2.5.1 0 3.1.1.1 = 3.1.1.1 -\nput 5 3.5.1 disk 0 begin fail 3.1.1.1:died\nput 5 3.5.1 disk 1 approve 3.5.1/0 1 - -\nput 5 3.5.1 z 0 begin join 5.1.1.2 phases=n batch=joins default=reject limit=5\nheard 5.1.1.2 3.5.1 z 0 begin-join - =\ncast 5.1.1.2 3.5.1/0 1 R=x\nput 5 3.5.1 z 1 reject 3.5.1/0 1 5.1.1.2=R\nheard 5.1.1.2 3.5.1 z 1 reject - =\ntold 5.1.2.3 3 NO_SOURCE_GROUP_PROVIDER 2\nrefused 2.c2 NO_INIT\nrefused 2.c2 NO_INIT\nrefused 4.c1 NO_INIT\nrefused 5.c7 BAD_MEMBER_TOKEN\nup 3 2\nin 3 1.3.2 3.2\nrefused 2.c9 NO_INIT\ndown 1\nasked 3.2.1.1 1 db join\nrefused 3.c10 COLLIDE 1\ntold 3.2.1.1 1 NO_SOURCE_GROUP_PROVIDER 0\nrefused 4.c1 NO_INIT\nasked 5.1.3.4 4 disk join\nrefused 5.c11 COLLIDE 4\nput 5 3.5.1 disk 2 begin join 5.1.3.4 phases=n default=reject limit=5\nheard 5.1.3.4 3.5.1 disk 2 begin-join - =\ncast 5.1.3.4 3.5.1/2 1 A\nrefused 5.c11 VOTE_NOT_EXPECTED\nput 5 3.5.1 disk 3 approve 3.5.1/2 1 5.1.3.4=A -\nheard 5.1.3.4 3.5.1 disk 3 approve 5.1.3.4 =\nnoted 5.c11 3.5.1 disk 3 5.1.3.4 =\nrefused 4.c1 NO_INIT\nasked 4.2.2.1 1 disk join\n"
unfolding all_opens
asked_plain_10 = refl

pub asked_plain_16 : transcript (codes "") (codes "mode asked\nnode 1\nnode 2\nnode 3\nadapter 1 1 10.1.0.9\nadapter 2 1 10.1.0.16\nadapter 2 3 10.3.0.18\nadapter 2 4 10.4.0.19\nadapter 3 1 10.1.0.23\nadapter 3 4 10.4.0.26\nbegin\nstart 1\nstart 3\nask 1 1 2 3\nflow\nclient 2 c1 A\njoin c1 a 2 limit=3 batch=failures phases=n\nflow\nclient 1 c2 A\njoin c2 db 3 default=approve sphases=1 phases=n slimit=0 source=disk\nflow\nmessage c1 a n ~\nstate c2 db 1 wwwwwwwwwwwwwwwwwwwwwwwwwwwwwwwwwwwwwwwwwwwwwwwwwwwwwwwwwwwwwwwwwwwwwwwwwwwwwwwwwwwwwwwwwwwwwwwwwwwwwwwwwwwwwwwwwwwwwwwwwwwwwwwwwwwwwwwwwwwwwwwwwwwwwwwwwwwwwwwwwwwwwwwwwwwwwwwwwwwwwwwwwwwwwwwwwwwwwwwwwwwwwwwwwwwwwwwwwwwwwwwwwwwwwwwwwwwwwwwwwwwwwwwwwwwwwwwwwwwwwwwwwwwwwwwwwwwwwwwwwwwwwwwwwwwwwwwwwwww\nrun 4\nflow\nstart 3\nstate c2 db n up\nrun 2\nleave c2 db n\nattrs c2 db n default=approve sphases=1 phases=n slimit=0 source=disk\nflow\nflow\nflow\nstop 3\nstate c2 db n wwwwwwwwwwwwwwwwwwwwwwwwwwwwwwwwwwwwwwwwwwwwwwwwwwwwwwwwwwwwwwwwwwwwwwwwwwwwwwwwwwwwwwwwwwwwwwwwwwwwwwwwwwwwwwwwwwwwwwwwwwwwwwwwwwwwwwwwwwwwwwwwwwwwwwwwwwwwwwwwwwwwwwwwwwwwwwwwwwwwwwwwwwwwwwwwwwwwwwwwwwwwwwwwwwwwwwwwwwwwwwwwwwwwwwwwwwwwwwwwwwwwwwwwwwwwwwwwwwwwwwwwwwwwwwwwwwwwwwwwwwwwwwwwwwwwwwwwwwww\nstop 2\nask 2 1 2 3\nstate c2 db n up\ndeliver 2 1 7\ndeliver 3 3 27\ndeliver 1 2 5\ndeliver 2 2 17\ndeliver 2 2 3\nleave c2 db n\nattrs c2 db n default=approve sphases=1 phases=n slimit=0 source=disk\nattrs c2 db n default=approve sphases=1 phases=n slimit=0 source=disk\ntick 1\ndeliver 3 1 12\ndeliver 3 1 25\ndeliver 2 1 18\nflow\nflow\nclient 3 c3 A=x\njoin c3 disk 2 phases=1 batch=none\nflow\nask 3 1 2 3\nflow\nexpel c2 db n 1.2.3.3\nrun 1\ndeliver 2 2 10\nattrs c2 db n default=approve sphases=1 phases=n slimit=0 source=disk\nleave c2 db n\nmessage c2 db 1 x=1\ngoodbye c2\nshow 3 hagsvote\nstart 2\ndeliver 3 1 18\ndeliver 1 2 5\ndeliver 3 1 11\ndeliver 3 3 18\ndeliver 1 1 23\ndeliver 2 3 7\ndeliver 3 2 21\ndeliver 2 1 26\ndeliver 3 2 22\ndeliver 1 2 3\ndeliver 2 3 27\ndeliver 2 2 2\ndeliver 2 1 2\ndeliver 2 1 1\ndeliver 2 1 2\nrun 2\ndeliver 3 3 1\ndeliver 3 1 24\nclient 3 c4 C,-,R\njoin c4 z 1 phases=n limit=1 batch=both\nrun 1\nrun 5\nvote c4 z A\nunsubscribe c3 a\nflow\nmessage c3 disk n x=1\nrun 5\nmessage c2 db n x=1\nflow\nrun 5\nstate c2 db 1 ~\nflow\ntick 2\nshow 3 hagsgr\nflow\nmessage c3 disk n x=1\ngoodbye c3\nclient 2 c5 A\njoin c5 a 3 limit=3 batch=failures phases=n\n") ≡ codes "up 1 1\nin 1 1.1.1 1.1\nup 3 1\nin 3 1.3.1 3.1\nrefused 2.c1 NO_INIT\nrefused 2.c1 NO_INIT\nasked 1.1.3.1 1 db join\nrefused 2.c1 NO_INIT\nrefused 1.c2 BAD_PARAMETER value\nrefused 1.c2 COLLIDE 1\nrefused 1.c2 COLLIDE 1\nrefused 1.c2 COLLIDE 1\ndown 3\nrefused 1.c2 BAD_PARAMETER value\nrefused 1.c2 COLLIDE 1\nrefused 1.c2 COLLIDE 1\nrefused 1.c2 COLLIDE 1\nrefused 1.c2 COLLIDE 1\nrefused 3.c3 NO_INIT\nrefused 3.c3 NO_INIT\nrefused 1.c2 COLLIDE 1\nrefused 1.c2 COLLIDE 1\nrefused 1.c2 COLLIDE 1\nrefused 1.c2 COLLIDE 1\nup 2 1\nin 2 1.2.1 2.1\nin 1 2.1.1 1.1,2.1,3.1\nin 2 2.1.1 1.1,2.1,3.1\nrefused 3.c4 NO_INIT\nrefused 3.c4 NO_INIT\nrefused 3.c4 NO_INIT\nrefused 3.c3 NO_INIT\nrefused 3.c3 NO_INIT\nrefused 1.c2 NO_INIT\nrefused 1.c2 NO_INIT\nrefused 3.c3 NO_INIT\nrefused 3.c3 NO_INIT\nasked 2.1.3.1 1 a join\n"
unfolding all_opens
asked_plain_16 = refl
