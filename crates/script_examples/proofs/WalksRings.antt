-- Random walks in mode rings: whole transcripts.
use Rattle.std.specs.Prelude.{◌≡◌, codes}
use Rattle.std.proofs.Common.{refl}
use Rattle.world_model.specs.Play.{transcript}
use Rattle.script_examples.specs.Opens.{all_opens}

pub rings_level_04 : transcript (codes "") (codes "mode rings\nnode 25\nnode 28\nlevel 25 1\ndomain 2\nbegin\nstart 25\nstart 28\nrun 4\nclient 28 c1 A\njoin c1 z 2 phases=n\nflow\nclient 25 c2 A,A,A\njoin c2 z 3 phases=n\nflow\nclient 25 c3 -,-\njoin c3 z 1 phases=n\nflow\nclient 28 c4 R,-\njoin c4 z 2 phases=n\nflow\nclient 25 c5 A\njoin c5 db 2 sphases=n limit=4 batch=failures source=disk\nflow\nclient 28 c6 A\njoin c6 a 3 source=db limit=0\nflow\ndeliver 28 25 16\ndeliver 28 25 4\ndeliver 25 28 23\nvote c3 z A\ndeliver 25 28 24\ndeliver 25 28 24\ndeliver 25 28 24\nvote c3 z R=v\ndeliver 28 25 19\ndeliver 28 25 19\ndeliver 28 25 19\ndeliver 28 25 19\ndeliver 28 25 19\ndrop 25 28\nflow\nmessage c2 z n hi\nstate c1 z n red\nleave c3 z n\nmessage c2 z n hi\nmessage c1 z n x=1\ndeliver 28 25 13\ndeliver 25 28 1\ndeliver 28 28 6\ndeliver 25 28 26\nshow 28 hagsvote\nstate c3 z 1 up\ntick 28\nstate c3 z n up\nvote c3 z R\nexpel c3 z 1 28.1.2.1 25.1.1.2\nflow\nflow\nexpel c2 z n 25.1.3.1\nvote c2 z A\nvote c2 z A=v\nrun 1\nstate c1 z n up\nmessage c3 z 1 ~\nstate c3 z 1 red\ndeliver 25 28 21\ndeliver 25 28 14\ndeliver 28 28 24\ndeliver 25 28 14\nmessage c3 z n ~\ndeliver 28 28 15\ndeliver 28 28 15\nvote c3 z A\ndeliver 25 28 40\ndeliver 28 28 16\ndeliver 25 28 41\ndeliver 25 28 40\ndeliver 28 28 17\ndeliver 28 28 17\ndeliver 28 25 29\ndeliver 28 25 30\ndeliver 28 25 28\nrun 12\nattrs c2 z n phases=n\ndrop 25 28\nstate c2 z n wwwwwwwwwwwwwwwwwwwwwwwwwwwwwwwwwwwwwwwwwwwwwwwwwwwwwwwwwwwwwwwwwwwwwwwwwwwwwwwwwwwwwwwwwwwwwwwwwwwwwwwwwwwwwwwwwwwwwwwwwwwwwwwwwwwwwwwwwwwwwwwwwwwwwwwwwwwwwwwwwwwwwwwwwwwwwwwwwwwwwwwwwwwwwwwwwwwwwwwwwwwwwwwwwwwwwwwwwwwwwwwwwwwwwwwwwwwwwwwwwwwwwwwwwwwwwwwwwwwwwwwwwwwwwwwwwwwwwwwwwwwwwwwwwwwwwwwwwwww\nrun 11\n") ≡ codes "up 25 1\nring 25 1 25.1.1 25 25\nin 25 1.25.1 25.1\nup 28 1\nring 28 1 28.1.1 28 28\nin 28 1.28.1 28.1\nring 28 1 28.1.2 25,28 25\nring 25 1 28.1.2 25,28 28\nin 25 2.25.1 25.1,28.1\nin 28 2.25.1 25.1,28.1\nasked 28.1.2.1 1 z join\nput 28 2.25.1 z 0 begin join 28.1.2.1 phases=n\nheard 28.1.2.1 2.25.1 z 0 begin-join - =\ncast 28.1.2.1 2.25.1/0 1 A\nput 25 2.25.1 z 0 begin join 28.1.2.1 phases=n\nput 28 2.25.1 z 1 approve 2.25.1/0 1 28.1.2.1=A -\nheard 28.1.2.1 2.25.1 z 1 approve 28.1.2.1 =\nput 25 2.25.1 z 1 approve 2.25.1/0 1 28.1.2.1=A -\nasked 25.1.3.1 1 z join\nput 28 2.25.1 z 2 begin join 25.1.3.1 phases=n\nheard 28.1.2.1 2.25.1 z 2 begin-join 28.1.2.1 =\ncast 28.1.2.1 2.25.1/2 1 A\nput 25 2.25.1 z 2 begin join 25.1.3.1 phases=n\nheard 25.1.3.1 2.25.1 z 2 begin-join 28.1.2.1 =\ncast 25.1.3.1 2.25.1/2 1 A\nput 28 2.25.1 z 3 approve 2.25.1/2 1 28.1.2.1=A,25.1.3.1=A -\nheard 28.1.2.1 2.25.1 z 3 approve 28.1.2.1,25.1.3.1 =\nput 25 2.25.1 z 3 approve 2.25.1/2 1 28.1.2.1=A,25.1.3.1=A -\nheard 25.1.3.1 2.25.1 z 3 approve 28.1.2.1,25.1.3.1 =\nasked 25.1.1.2 2 z join\nput 28 2.25.1 z 4 begin join 25.1.1.2 phases=n\nheard 28.1.2.1 2.25.1 z 4 begin-join 28.1.2.1,25.1.3.1 =\ncast 28.1.2.1 2.25.1/4 1 A\nput 25 2.25.1 z 4 begin join 25.1.1.2 phases=n\nheard 25.1.3.1 2.25.1 z 4 begin-join 28.1.2.1,25.1.3.1 =\ncast 25.1.3.1 2.25.1/4 1 A\nheard 25.1.1.2 2.25.1 z 4 begin-join 28.1.2.1,25.1.3.1 =\nasked 28.1.2.2 2 z join\ntold 28.1.2.2 2 DUPLICATE_INSTANCE_NUMBER\nasked 25.1.2.3 3 db join\ntold 25.1.2.3 3 NO_SOURCE_GROUP_PROVIDER 0\nasked 28.1.3.3 3 a join\ntold 28.1.3.3 3 NO_SOURCE_GROUP_PROVIDER 0\ncast 25.1.1.2 2.25.1/4 1 A\nput 28 2.25.1 z 5 approve 2.25.1/4 1 28.1.2.1=A,25.1.3.1=A,25.1.1.2=A -\nheard 28.1.2.1 2.25.1 z 5 approve 28.1.2.1,25.1.3.1,25.1.1.2 =\nrefused 25.c3 VOTE_NOT_EXPECTED\nput 25 2.25.1 z 5 approve 2.25.1/4 1 28.1.2.1=A,25.1.3.1=A,25.1.1.2=A -\nheard 25.1.3.1 2.25.1 z 5 approve 28.1.2.1,25.1.3.1,25.1.1.2 =\nheard 25.1.1.2 2.25.1 z 5 approve 28.1.2.1,25.1.3.1,25.1.1.2 =\nasked 25.1.3.1 4 z message\nasked 28.1.2.1 4 z state\nasked 25.1.1.2 5 z leave\nrefused 25.c2 COLLIDE 4\nrefused 28.c1 COLLIDE 4\nrefused 25.c3 COLLIDE 5\nrefused 25.c3 COLLIDE 5\nrefused 25.c3 VOTE_NOT_EXPECTED\nrefused 25.c3 COLLIDE 5\nput 28 2.25.1 z 6 begin message 25.1.3.1/4 =hi\nheard 28.1.2.1 2.25.1 z 6 begin-message 28.1.2.1,25.1.3.1,25.1.1.2 =\ncast 28.1.2.1 2.25.1/6 1 A\nput 25 2.25.1 z 6 begin message 25.1.3.1/4 =hi\nheard 25.1.3.1 2.25.1 z 6 begin-message 28.1.2.1,25.1.3.1,25.1.1.2 =\ncast 25.1.3.1 2.25.1/6 1 A\nheard 25.1.1.2 2.25.1 z 6 begin-message 28.1.2.1,25.1.3.1,25.1.1.2 =\ntold 28.1.2.1 4 COLLIDE 2.25.1/6\ntold 25.1.1.2 5 COLLIDE 2.25.1/6\nasked 25.1.3.1 6 z expel\nrefused 25.c2 VOTE_NOT_EXPECTED\nrefused 25.c2 VOTE_NOT_EXPECTED\ntold 25.1.3.1 6 COLLIDE 2.25.1/6\nasked 28.1.2.1 5 z state\nasked 25.1.1.2 7 z message\nrefused 25.c3 COLLIDE 7\nrefused 25.c3 COLLIDE 7\ncast 25.1.1.2 2.25.1/6 1 A\ntold 28.1.2.1 5 COLLIDE 2.25.1/6\nput 28 2.25.1 z 7 approve 2.25.1/6 1 28.1.2.1=A,25.1.3.1=A,25.1.1.2=A -\nheard 28.1.2.1 2.25.1 z 7 approve 28.1.2.1,25.1.3.1,25.1.1.2 =\nput 25 2.25.1 z 7 approve 2.25.1/6 1 28.1.2.1=A,25.1.3.1=A,25.1.1.2=A -\nheard 25.1.3.1 2.25.1 z 7 approve 28.1.2.1,25.1.3.1,25.1.1.2 =\nheard 25.1.1.2 2.25.1 z 7 approve 28.1.2.1,25.1.3.1,25.1.1.2 =\ntold 25.1.1.2 7 COLLIDE 2.25.1/6\nasked 25.1.3.1 8 z attrs\nrefused 25.c2 BAD_PARAMETER value\nput 28 2.25.1 z 8 begin attrs 25.1.3.1/8 phases=n\nheard 28.1.2.1 2.25.1 z 8 begin-attrs 28.1.2.1,25.1.3.1,25.1.1.2 =\ncast 28.1.2.1 2.25.1/8 1 A\nput 25 2.25.1 z 8 begin attrs 25.1.3.1/8 phases=n\nheard 25.1.3.1 2.25.1 z 8 begin-attrs 28.1.2.1,25.1.3.1,25.1.1.2 =\ncast 25.1.3.1 2.25.1/8 1 A\nheard 25.1.1.2 2.25.1 z 8 begin-attrs 28.1.2.1,25.1.3.1,25.1.1.2 =\n"
unfolding all_opens
rings_level_04 = refl

pub rings_level_06 : transcript (codes "") (codes "mode rings\nnode 23\nnode 25\nnode 30\nlevel 23 2\nlevel 30 1\nbegin\nstart 23\nstart 25\nstart 30\nrun 4\nclient 30 c1 A,-\njoin c1 a 3 limit=5 phases=n\nflow\nclient 30 c1 -\njoin c1 a 3 limit=5 phases=n\nflow\nclient 30 c1 A\njoin c1 z 3 batch=failures default=reject limit=2 phases=n\nflow\nclient 25 c4 R=vvvvvvvvvvvvvvvvvvvvvvvvvvvvvvvvvvvvvvvvvvvvvvvvvvvvvvvvvvvvvvvvvvvvvvvvvvvvvvvvvvvvvvvvvvvvvvvvvvvvvvvvvvvvvvvvvvvvvvvvvvvvvvvvvvvvvvvvvvvvvvvvvvvvvvvvvvvvvvvvvvvvvvvvvvvvvvvvvvvvvvvvvvvvvvvvvvvvvvvvvvvvvvvvvvvvvvvvvvvvvvvvvvvvvvvvvvvvvvvvvvvvvvvvvvvvvvvvvvvvvvvvvvvvvvvvvvvvvvvvvvvvvvvvvvvvvvvvvvvv,A,C\njoin c4 disk 2 batch=joins default=reject limit=2\nflow\nmessage c1 a n hi\nexpel c1 a 1 23.2.1.5 23.2.2.3\nflow\nexpel c1 a n 30.1.3.1\nflow\nflow\nexpel c4 disk n 25.1.2.1\ndeliver 25 25 2\ndeliver 25 25 2\ndeliver 25 25 2\ndeliver 25 25 2\ndeliver 25 25 2\njoin c1 a 1 limit=5 phases=n\nflow\ndeliver 23 25 16\ndeliver 23 30 26\ndeliver 25 30 9\ndeliver 23 23 6\ndeliver 25 23 4\nstate c1 a 1 ~\nstate c1 a 1 %25\nflow\ndeliver 23 30 7\ndeliver 30 30 22\ndrop 30 23\nflow\nflow\nstop 23\nrun 3\nattrs c1 a n limit=5 phases=n\nflow\nstop 30\nsubscribe c1 HostMembership\nstate c1 a n ~\njoin c4 z 2 batch=failures default=reject limit=2 phases=n\ndeliver 30 25 7\ndeliver 23 30 2\ndeliver 23 23 19\ndeliver 23 25 5\ndeliver 30 30 19\ndeliver 30 30 25\njoin c4 z 1 limit=1 phases=n\nleave c4 z 1\nvote c4 z C\nmessage c4 z n x=1\nrun 3\ndeliver 30 25 12\ndeliver 25 25 11\ndeliver 25 30 28\njoin c4 db 3 batch=both slimit=2 limit=0 source=disk\nattrs c4 db n batch=both slimit=2 limit=0 source=disk\nmessage c4 z 1 hi\nstate c4 z n ~\ndrop 25 23\ndeliver 25 30 34\ndeliver 25 30 34\ndeliver 25 30 34\ndeliver 25 30 34\ndeliver 25 30 34\ndeliver 25 30 34\ndeliver 25 30 34\ndeliver 25 30 34\ndeliver 25 30 34\ndeliver 25 30 34\nexpel c4 z n 30.1.3.2\nexpel c4 z n 30.1.3.2\nstate c4 db n wwwwwwwwwwwwwwwwwwwwwwwwwwwwwwwwwwwwwwwwwwwwwwwwwwwwwwwwwwwwwwwwwwwwwwwwwwwwwwwwwwwwwwwwwwwwwwwwwwwwwwwwwwwwwwwwwwwwwwwwwwwwwwwwwwwwwwwwwwwwwwwwwwwwwwwwwwwwwwwwwwwwwwwwwwwwwwwwwwwwwwwwwwwwwwwwwwwwwwwwwwwwwwwwwwwwwwwwwwwwwwwwwwwwwwwwwwwwwwwwwwwwwwwwwwwwwwwwwwwwwwwwwwwwwwwwwwwwwwwwwwwwwwwwwwwwwwwwwwww\nflow\nmessage c4 db 1 ~\nstop 30\ndeliver 23 30 26\ndeliver 23 30 1\ndeliver 23 30 3\nflow\nstart 30\nsubscribe c4 a\ndeliver 23 23 8\ndeliver 23 30 27\ndeliver 23 23 7\ndeliver 30 23 28\ndeliver 23 25 1\ndeliver 25 23 25\ndeliver 30 30 1\ndeliver 23 25 30\nflow\nmessage c4 db n x=1\ndeliver 25 30 18\ndeliver 30 25 1\ndeliver 30 25 13\ndeliver 23 25 20\ndeliver 25 23 18\nstate c4 db n ~\nflow\nexpel c4 z 1 30.1.3.2\nstate c4 disk 1 up\ndeliver 30 23 3\nstop 30\nflow\nrun 2\ndeliver 25 30 12\ndeliver 25 23 22\ndeliver 30 23 11\ndeliver 25 23 20\ndeliver 23 30 17\ndeliver 25 25 9\njoin c4 z 2 batch=failures default=reject limit=2 phases=n\ngoodbye c4\nvote c4 disk C\ndrop 25 25\nclient 30 c5 A\njoin c5 disk 2 batch=joins default=reject limit=2\nstate c1 a n ~\nrun 10\n") ≡ codes "up 23 1\nring 23 1 23.1.1 23 23\nin 23 1.23.1 23.1\nup 25 1\nring 25 1 25.1.1 25 25\nin 25 1.25.1 25.1\nup 30 1\nring 30 1 30.1.1 30 30\nin 30 1.30.1 30.1\nring 25 1 25.1.2 23,25 23\nring 30 1 30.1.2 23,30 23\nring 23 1 30.1.2 23,30 30\nring 30 1 30.1.3 23,25,30 25\nring 23 1 30.1.3 23,25,30 30\nring 25 1 30.1.3 23,25,30 23\nin 23 2.23.1 23.1,25.1,30.1\nin 25 2.23.1 23.1,25.1,30.1\nin 30 2.23.1 23.1,25.1,30.1\nasked 30.1.3.1 1 a join\nput 30 2.23.1 a 0 begin join 30.1.3.1 phases=n limit=5\nheard 30.1.3.1 2.23.1 a 0 begin-join - =\ncast 30.1.3.1 2.23.1/0 1 A\nput 23 2.23.1 a 0 begin join 30.1.3.1 phases=n limit=5\nput 25 2.23.1 a 0 begin join 30.1.3.1 phases=n limit=5\nput 30 2.23.1 a 1 approve 2.23.1/0 1 30.1.3.1=A -\nheard 30.1.3.1 2.23.1 a 1 approve 30.1.3.1 =\nput 23 2.23.1 a 1 approve 2.23.1/0 1 30.1.3.1=A -\nput 25 2.23.1 a 1 approve 2.23.1/0 1 30.1.3.1=A -\nrefused 30.c1 EXISTS\nrefused 30.c1 EXISTS\nrefused 30.c1 EXISTS\nasked 30.1.3.2 2 z join\nput 30 2.23.1 z 0 begin join 30.1.3.2 phases=n batch=failures default=reject limit=2\nheard 30.1.3.2 2.23.1 z 0 begin-join - =\ncast 30.1.3.2 2.23.1/0 1 A\nput 23 2.23.1 z 0 begin join 30.1.3.2 phases=n batch=failures default=reject limit=2\nput 25 2.23.1 z 0 begin join 30.1.3.2 phases=n batch=failures default=reject limit=2\nput 30 2.23.1 z 1 approve 2.23.1/0 1 30.1.3.2=A -\nheard 30.1.3.2 2.23.1 z 1 approve 30.1.3.2 =\nput 23 2.23.1 z 1 approve 2.23.1/0 1 30.1.3.2=A -\nput 25 2.23.1 z 1 approve 2.23.1/0 1 30.1.3.2=A -\nasked 25.1.2.1 1 disk join\nput 25 2.23.1 disk 0 once join 25.1.2.1 batch=joins default=reject limit=2\nheard 25.1.2.1 2.23.1 disk 0 once-join 25.1.2.1 =\nput 23 2.23.1 disk 0 once join 25.1.2.1 batch=joins default=reject limit=2\nput 30 2.23.1 disk 0 once join 25.1.2.1 batch=joins default=reject limit=2\nasked 30.1.3.1 3 a message\nrefused 30.c1 COLLIDE 3\nput 30 2.23.1 a 2 begin message 30.1.3.1/3 =hi\nheard 30.1.3.1 2.23.1 a 2 begin-message 30.1.3.1 =\ncast 30.1.3.1 2.23.1/2 1 A\nput 23 2.23.1 a 2 begin message 30.1.3.1/3 =hi\nput 25 2.23.1 a 2 begin message 30.1.3.1/3 =hi\nput 30 2.23.1 a 3 approve 2.23.1/2 1 30.1.3.1=A -\nheard 30.1.3.1 2.23.1 a 3 approve 30.1.3.1 =\nput 23 2.23.1 a 3 approve 2.23.1/2 1 30.1.3.1=A -\nput 25 2.23.1 a 3 approve 2.23.1/2 1 30.1.3.1=A -\nasked 30.1.3.1 4 a expel\nput 30 2.23.1 a 4 begin expel 30.1.3.1/4 30.1.3.1\nheard 30.1.3.1 2.23.1 a 4 begin-expel 30.1.3.1 =\nput 30 2.23.1 a 5 approve 2.23.1/4 1 - -\nheard 30.1.3.1 2.23.1 a 5 approve - =\nput 23 2.23.1 a 4 begin expel 30.1.3.1/4 30.1.3.1\nput 25 2.23.1 a 4 begin expel 30.1.3.1/4 30.1.3.1\nput 23 2.23.1 a 5 approve 2.23.1/4 1 - -\nput 25 2.23.1 a 5 approve 2.23.1/4 1 - -\nasked 25.1.2.1 2 disk expel\nput 25 2.23.1 disk 1 begin expel 25.1.2.1/2 25.1.2.1\nheard 25.1.2.1 2.23.1 disk 1 begin-expel 25.1.2.1 =\nput 25 2.23.1 disk 2 approve 2.23.1/1 1 - -\nheard 25.1.2.1 2.23.1 disk 2 approve - =\nasked 30.1.1.5 5 a join\nput 23 2.23.1 disk 1 begin expel 25.1.2.1/2 25.1.2.1\nput 30 2.23.1 disk 1 begin expel 25.1.2.1/2 25.1.2.1\nput 23 2.23.1 disk 2 approve 2.23.1/1 1 - -\nput 30 2.23.1 disk 2 approve 2.23.1/1 1 - -\nput 30 2.23.1 a 6 begin join 30.1.1.5 phases=n limit=5\nheard 30.1.1.5 2.23.1 a 6 begin-join - =\ncast 30.1.1.5 2.23.1/6 1 A\nput 23 2.23.1 a 6 begin join 30.1.1.5 phases=n limit=5\nput 25 2.23.1 a 6 begin join 30.1.1.5 phases=n limit=5\nput 30 2.23.1 a 7 approve 2.23.1/6 1 30.1.1.5=A -\nheard 30.1.1.5 2.23.1 a 7 approve 30.1.1.5 =\nput 23 2.23.1 a 7 approve 2.23.1/6 1 30.1.1.5=A -\nput 25 2.23.1 a 7 approve 2.23.1/6 1 30.1.1.5=A -\nasked 30.1.1.5 6 a state\nrefused 30.c1 COLLIDE 6\nput 30 2.23.1 a 8 once state 30.1.1.5/6 =\nheard 30.1.1.5 2.23.1 a 8 once-state 30.1.1.5 =\nput 23 2.23.1 a 8 once state 30.1.1.5/6 =\nput 25 2.23.1 a 8 once state 30.1.1.5/6 =\ndown 23\nasked 30.1.1.5 7 a attrs\nput 30 2.23.1 a 9 begin attrs 30.1.1.5/7 phases=n limit=5\nheard 30.1.1.5 2.23.1 a 9 begin-attrs 30.1.1.5 =\ncast 30.1.1.5 2.23.1/9 1 A\nput 25 2.23.1 a 9 begin attrs 30.1.1.5/7 phases=n limit=5\nput 30 2.23.1 a 10 approve 2.23.1/9 1 30.1.1.5=A -\nheard 30.1.1.5 2.23.1 a 10 approve 30.1.1.5 =\nput 25 2.23.1 a 10 approve 2.23.1/9 1 30.1.1.5=A -\ndown 30\nrefused 30.c1 NO_INIT\nrefused 30.c1 NO_INIT\nasked 25.1.2.3 3 z join\nrefused 25.c4 EXISTS\nrefused 25.c4 COLLIDE 3\nrefused 25.c4 VOTE_NOT_EXPECTED\nrefused 25.c4 COLLIDE 3\nasked 25.1.3.4 4 db join\nrefused 25.c4 COLLIDE 4\nrefused 25.c4 COLLIDE 3\nrefused 25.c4 COLLIDE 3\nrefused 25.c4 COLLIDE 3\nrefused 25.c4 COLLIDE 3\nrefused 25.c4 BAD_PARAMETER value\nrefused 25.c4 COLLIDE 4\nup 30 2\nring 30 1 30.2.1 30 30\nin 30 1.30.2 30.2\nrefused 25.c4 COLLIDE 4\nrefused 25.c4 COLLIDE 4\nrefused 25.c4 COLLIDE 3\nrefused 25.c4 BAD_MEMBER_TOKEN\ndown 30\nring 25 1 25.1.3 25 25\nin 25 3.25.1 25.1\nbase 25 3.25.1 a 2.23.1 11 30.1.1.5 = 30.1.1.5 -\nbase 25 3.25.1 z 2.23.1 2 30.1.3.2 = 30.1.3.2 -\nnoted 25.c4 3.25.1 a - 30.1.1.5 =\nput 25 3.25.1 a 0 begin fail 30.1.1.5:died\nput 25 3.25.1 a 1 approve 3.25.1/0 1 - -\nnoted 25.c4 3.25.1 a 1 - =\nput 25 3.25.1 z 0 begin fail 30.1.3.2:died\nput 25 3.25.1 z 1 approve 3.25.1/0 1 - -\nput 25 3.25.1 z 2 begin join 25.1.2.3 phases=n batch=failures default=reject limit=2\nheard 25.1.2.3 3.25.1 z 2 begin-join - =\ntold 25.1.3.4 4 NO_SOURCE_GROUP_PROVIDER 0\nrefused 25.c4 EXISTS\nrefused 25.c4 NO_INIT\nrefused 30.c5 NO_INIT\nrefused 30.c5 NO_INIT\nrefused 30.c1 NO_INIT\nput 25 3.25.1 z 3 reject 3.25.1/2 1 25.1.2.3=FR\n"
unfolding all_opens
rings_level_06 = refl

pub rings_level_07 : transcript (codes "") (codes "mode rings\nnode 1\nnode 2\nlevel 1 2\nbegin\nstart 1\nstart 2\nrun 4\nclient 2 c1 A\njoin c1 disk 2 default=reject limit=0 phases=n\nflow\nclient 1 c2 A\njoin c2 z 2 default=approve limit=5\nflow\nflow\ncut 1 1\nrun 2\nflow\nflow\nmessage c2 z n hi\nleave c1 disk 1\ndeliver 2 2 8\ndeliver 1 1 22\ndeliver 1 1 17\ndeliver 1 2 30\ndeliver 1 2 12\ndeliver 1 2 16\ndeliver 2 1 5\ndeliver 2 1 16\ndeliver 1 2 19\ndeliver 1 1 20\ndeliver 1 2 3\nflow\nflow\njoin c1 z 1 default=approve limit=5\nflow\nleave c2 z n\nstart 2\nmessage c2 z 1 x=1\nflow\nstate c2 z 1 ~\nstart 2\nflow\njoin c2 z 2 default=approve limit=5\nstart 1\nflow\ntick 1\nstop 1\ndeliver 1 2 22\ndeliver 1 1 5\ndeliver 1 2 22\ndeliver 1 1 5\nrun 7\ndrop 2 2\nflow\nexpel c1 z 1 2.1.1.3\nsubscribe c1 z\nstop 1\nmessage c1 z n hi\nvote c1 disk C\nstate c1 z n up\nrun 1\nflow\nleave c1 z n\ncut 2 1\nrun 2\nclient 2 c3 A,A=blue%2C\njoin c3 disk 3 default=reject limit=0 phases=n\nleave c2 z n\nattrs c3 disk 1 default=reject limit=0 phases=n\nflow\nmessage c3 disk n x=1\ndrop 2 2\nstate c2 z n wwwwwwwwwwwwwwwwwwwwwwwwwwwwwwwwwwwwwwwwwwwwwwwwwwwwwwwwwwwwwwwwwwwwwwwwwwwwwwwwwwwwwwwwwwwwwwwwwwwwwwwwwwwwwwwwwwwwwwwwwwwwwwwwwwwwwwwwwwwwwwwwwwwwwwwwwwwwwwwwwwwwwwwwwwwwwwwwwwwwwwwwwwwwwwwwwwwwwwwwwwwwwwwwwwwwwwwwwwwwwwwwwwwwwwwwwwwwwwwwwwwwwwwwwwwwwwwwwwwwwwwwwwwwwwwwwwwwwwwwwwwwwwwwwwwwwwwwwwww\nsubscribe c3 disk\ntick 2\ncut 2 1\nrun 3\nstate c3 disk n up\nflow\nflow\ndeliver 2 1 4\ndeliver 2 2 18\ndeliver 1 2 8\ndeliver 2 1 40\ndeliver 2 1 40\nstate c3 disk n red\nvote c1 disk A\nstop 1\nrun 4\njoin c2 z 3 default=approve limit=5\nflow\nstate c3 disk n red\nleave c3 disk 1\ndeliver 2 2 19\ndeliver 2 2 19\nvote c3 disk A\ndeliver 2 2 20\ndrop 1 2\ndrop 1 2\nflow\nattrs c3 disk 1 default=reject limit=0 phases=n\nstart 2\nflow\ndeliver 2 1 8\ndeliver 1 1 19\ndeliver 1 2 5\ndeliver 1 1 24\nmessage c3 disk 1 hi\njoin c2 disk 2 default=reject limit=0 phases=n\nstate c3 disk n up\nexpel c3 disk n 2.1.3.5\ncut 1 2 1\nrun 8\nrun 12\nflow\ndeliver 2 1 1\ndeliver 2 1 21\ndeliver 2 2 29\ndeliver 1 1 17\nmessage c3 disk n hi\ndeliver 2 2 24\ndeliver 2 2 24\ndeliver 2 2 24\ndeliver 2 2 24\nvote c3 disk A\nattrs c2 z n phases=1 batch=joins limit=4\nattrs c2 z n limit=4 default=reject\nattrs c3 disk n default=reject limit=0 phases=n\nstate c3 disk 1 wwwwwwwwwwwwwwwwwwwwwwwwwwwwwwwwwwwwwwwwwwwwwwwwwwwwwwwwwwwwwwwwwwwwwwwwwwwwwwwwwwwwwwwwwwwwwwwwwwwwwwwwwwwwwwwwwwwwwwwwwwwwwwwwwwwwwwwwwwwwwwwwwwwwwwwwwwwwwwwwwwwwwwwwwwwwwwwwwwwwwwwwwwwwwwwwwwwwwwwwwwwwwwwwwwwwwwwwwwwwwwwwwwwwwwwwwwwwwwwwwwwwwwwwwwwwwwwwwwwwwwwwwwwwwwwwwwwwwwwwwwwwwwwwwwwwwwwwwwww\ndeliver 2 2 26\ndeliver 2 2 26\ndeliver 2 2 26\ndeliver 2 2 29\ndeliver 2 2 27\ndeliver 2 2 29\nstart 2\ntick 2\ndeliver 1 2 15\ndeliver 2 1 1\ndeliver 2 1 9\ndeliver 2 1 23\ndeliver 2 2 25\ndeliver 2 2 25\ndeliver 2 1 65\ndeliver 2 1 65\nmessage c1 disk n x=1\ndeliver 2 2 30\ndeliver 2 2 30\nvote c3 disk C\nstate c3 disk n up\ndrop 2 1\nrun 12\nattrs c3 disk n default=reject limit=0 phases=n\nattrs c3 disk n default=reject limit=0 phases=n\nrun 10\n") ≡ codes "up 1 1\nring 1 1 1.1.1 1 1\nin 1 1.1.1 1.1\nup 2 1\nring 2 1 2.1.1 2 2\nin 2 1.2.1 2.1\nring 2 1 2.1.2 1,2 1\nring 1 1 2.1.2 1,2 2\nin 1 2.1.1 1.1,2.1\nin 2 2.1.1 1.1,2.1\nasked 2.1.2.1 1 disk join\nput 2 2.1.1 disk 0 begin join 2.1.2.1 phases=n default=reject\nheard 2.1.2.1 2.1.1 disk 0 begin-join - =\ncast 2.1.2.1 2.1.1/0 1 A\nput 1 2.1.1 disk 0 begin join 2.1.2.1 phases=n default=reject\nput 2 2.1.1 disk 1 approve 2.1.1/0 1 2.1.2.1=A -\nheard 2.1.2.1 2.1.1 disk 1 approve 2.1.2.1 =\nput 1 2.1.1 disk 1 approve 2.1.1/0 1 2.1.2.1=A -\nasked 1.1.2.1 1 z join\nput 1 2.1.1 z 0 once join 1.1.2.1 limit=5\nheard 1.1.2.1 2.1.1 z 0 once-join 1.1.2.1 =\nput 2 2.1.1 z 0 once join 1.1.2.1 limit=5\nasked 1.1.2.1 2 z message\nasked 2.1.2.1 2 disk leave\nput 2 2.1.1 disk 2 once leave 2.1.2.1/2\nheard 2.1.2.1 2.1.1 disk 2 once-leave - =\nput 1 2.1.1 disk 2 once leave 2.1.2.1/2\nasked 2.1.1.3 3 z join\nput 1 2.1.1 z 1 once join 2.1.1.3 limit=5\nheard 1.1.2.1 2.1.1 z 1 once-join 1.1.2.1,2.1.1.3 =\nput 2 2.1.1 z 1 once join 2.1.1.3 limit=5\nheard 2.1.1.3 2.1.1 z 1 once-join 1.1.2.1,2.1.1.3 =\nrefused 1.c2 COLLIDE 2\nrefused 1.c2 COLLIDE 2\nrefused 1.c2 COLLIDE 2\nrefused 1.c2 EXISTS\ndown 1\nring 2 1 2.1.3 2 2\nin 2 3.2.1 2.1\nbase 2 3.2.1 z 2.1.1 2 1.1.2.1,2.1.1.3 = 1.1.2.1 -\nput 2 3.2.1 z 0 once fail 1.1.2.1:died\nheard 2.1.1.3 3.2.1 z 0 once-fail 2.1.1.3 =\nasked 2.1.1.3 4 z expel\nrefused 2.c1 COLLIDE 4\nrefused 2.c1 BAD_MEMBER_TOKEN\nrefused 2.c1 COLLIDE 4\nput 2 3.2.1 z 1 once expel 2.1.1.3/4 2.1.1.3\nheard 2.1.1.3 3.2.1 z 1 once-expel - =\nnoted 2.c1 3.2.1 z 1 - =\nrefused 2.c1 BAD_MEMBER_TOKEN\nasked 2.1.3.5 5 disk join\nrefused 1.c2 NO_INIT\nrefused 2.c3 COLLIDE 5\nput 2 3.2.1 disk 0 begin join 2.1.3.5 phases=n default=reject\nheard 2.1.3.5 3.2.1 disk 0 begin-join - =\ncast 2.1.3.5 3.2.1/0 1 A\nput 2 3.2.1 disk 1 approve 3.2.1/0 1 2.1.3.5=A -\nheard 2.1.3.5 3.2.1 disk 1 approve 2.1.3.5 =\nasked 2.1.3.5 6 disk message\nrefused 1.c2 NO_INIT\nput 2 3.2.1 disk 2 begin message 2.1.3.5/6 =x=1\nheard 2.1.3.5 3.2.1 disk 2 begin-message 2.1.3.5 =\ncast 2.1.3.5 3.2.1/2 1 A\nput 2 3.2.1 disk 3 approve 3.2.1/2 1 2.1.3.5=A -\nheard 2.1.3.5 3.2.1 disk 3 approve 2.1.3.5 =\nasked 2.1.3.5 7 disk state\nput 2 3.2.1 disk 4 begin state 2.1.3.5/7 =up\nheard 2.1.3.5 3.2.1 disk 4 begin-state 2.1.3.5 =\ncast 2.1.3.5 3.2.1/4 1 A\nput 2 3.2.1 disk 5 approve 3.2.1/4 1 2.1.3.5=A -\nheard 2.1.3.5 3.2.1 disk 5 approve 2.1.3.5 =up\nnoted 2.c3 3.2.1 disk 5 2.1.3.5 =up\nasked 2.1.3.5 8 disk state\nrefused 2.c1 BAD_MEMBER_TOKEN\nput 2 3.2.1 disk 6 begin state 2.1.3.5/8 =red\nheard 2.1.3.5 3.2.1 disk 6 begin-state 2.1.3.5 =up\ncast 2.1.3.5 3.2.1/6 1 A\nput 2 3.2.1 disk 7 approve 3.2.1/6 1 2.1.3.5=A -\nheard 2.1.3.5 3.2.1 disk 7 approve 2.1.3.5 =red\nnoted 2.c3 3.2.1 disk 7 2.1.3.5 =red\nrefused 1.c2 NO_INIT\nasked 2.1.3.5 9 disk state\nrefused 2.c3 COLLIDE 9\nput 2 3.2.1 disk 8 begin state 2.1.3.5/9 =red\nheard 2.1.3.5 3.2.1 disk 8 begin-state 2.1.3.5 =red\ncast 2.1.3.5 3.2.1/8 1 A\nrefused 2.c3 VOTE_NOT_EXPECTED\nput 2 3.2.1 disk 9 approve 3.2.1/8 1 2.1.3.5=A -\nheard 2.1.3.5 3.2.1 disk 9 approve 2.1.3.5 =red\nasked 2.1.3.5 10 disk attrs\nput 2 3.2.1 disk 10 once attrs 2.1.3.5/10 phases=n default=reject\nheard 2.1.3.5 3.2.1 disk 10 once-attrs 2.1.3.5 =red\nasked 2.1.3.5 11 disk message\nrefused 1.c2 NO_INIT\nrefused 2.c3 COLLIDE 11\nrefused 2.c3 COLLIDE 11\nput 2 3.2.1 disk 11 once message 2.1.3.5/11 =hi\nheard 2.1.3.5 3.2.1 disk 11 once-message 2.1.3.5 =red\nasked 2.1.3.5 12 disk message\nput 2 3.2.1 disk 12 begin message 2.1.3.5/12 =hi\nheard 2.1.3.5 3.2.1 disk 12 begin-message 2.1.3.5 =red\ncast 2.1.3.5 3.2.1/12 1 A\nrefused 2.c3 VOTE_NOT_EXPECTED\nrefused 1.c2 NO_INIT\nrefused 1.c2 NO_INIT\nasked 2.1.3.5 13 disk attrs\nrefused 2.c3 BAD_PARAMETER value\ntold 2.1.3.5 13 COLLIDE 3.2.1/12\nput 2 3.2.1 disk 13 approve 3.2.1/12 1 2.1.3.5=A -\nheard 2.1.3.5 3.2.1 disk 13 approve 2.1.3.5 =red\nrefused 2.c1 BAD_MEMBER_TOKEN\nrefused 2.c3 VOTE_NOT_EXPECTED\nasked 2.1.3.5 14 disk state\nput 2 3.2.1 disk 14 begin state 2.1.3.5/14 =up\nheard 2.1.3.5 3.2.1 disk 14 begin-state 2.1.3.5 =red\ncast 2.1.3.5 3.2.1/14 1 A\nput 2 3.2.1 disk 15 approve 3.2.1/14 1 2.1.3.5=A -\nheard 2.1.3.5 3.2.1 disk 15 approve 2.1.3.5 =up\nnoted 2.c3 3.2.1 disk 15 2.1.3.5 =up\nasked 2.1.3.5 15 disk attrs\nrefused 2.c3 COLLIDE 15\nput 2 3.2.1 disk 16 begin attrs 2.1.3.5/15 phases=n default=reject\nheard 2.1.3.5 3.2.1 disk 16 begin-attrs 2.1.3.5 =up\ncast 2.1.3.5 3.2.1/16 1 A\nput 2 3.2.1 disk 17 approve 3.2.1/16 1 2.1.3.5=A -\nheard 2.1.3.5 3.2.1 disk 17 approve 2.1.3.5 =up\n"
unfolding all_opens
rings_level_07 = refl

pub rings_level_08 : transcript (codes "") (codes "mode rings\nnode 1\nnode 2\nnode 3\nnode 4\nhb 2 4\nlevel 1 1\nlevel 3 1\nlevel 4 1\nbegin\nstart 2\nstart 3\nstart 4\nrun 4\nclient 1 c1 A\njoin c1 db 2 default=approve sphases=1 limit=5 source=disk\nflow\nclient 1 c1 A,R,-\njoin c1 db 3 default=approve sphases=1 limit=5 source=disk\nclient 3 c3 A\njoin c3 a 1 batch=joins default=approve limit=2\nflow\njoin c3 z 3 default=reject limit=2 phases=n\ndeliver 3 3 4\ndeliver 3 3 4\ndeliver 3 3 5\ncut 2 1\nrun 1\nflow\nattrs c3 z 1 default=reject limit=2 phases=n\ndeliver 3 2 12\ndeliver 3 2 12\ndeliver 3 2 12\ndeliver 3 2 12\ndeliver 2 3 8\ndeliver 2 3 8\ndeliver 2 3 8\nvote c1 db A\nexpel c3 z n 3.1.3.2\ndrop 2 4\nmessage c3 z n x=1\nflow\ndrop 4 3\nunsubscribe c3 db\nleave c3 a n\nmessage c3 a 1 hi\ndeliver 3 3 10\ndeliver 3 3 10\nrun 4\nclient 2 c4 A\njoin c4 db 2 default=approve sphases=1 limit=5 source=disk\ndrop 4 4\ndeliver 2 2 1\ndeliver 2 2 1\ndeliver 2 2 1\ndeliver 2 2 1\ndeliver 2 2 4\ndeliver 2 2 4\ndeliver 2 2 4\ndeliver 2 2 5\nstate c1 db n %25\ncut 2 2\nrun 4\nvote c1 db A\ndeliver 3 2 12\ndeliver 1 4 9\njoin c3 db 1 default=approve sphases=1 limit=5 source=disk\ntick 4\nrun 5\nrun 11\ngoodbye c4\nheal 2 3 1\nrun 5\nvote c3 z A\nvote c3 z C\njoin c1 z 2 default=reject limit=2 phases=n\nstate c1 z 1 wwwwwwwwwwwwwwwwwwwwwwwwwwwwwwwwwwwwwwwwwwwwwwwwwwwwwwwwwwwwwwwwwwwwwwwwwwwwwwwwwwwwwwwwwwwwwwwwwwwwwwwwwwwwwwwwwwwwwwwwwwwwwwwwwwwwwwwwwwwwwwwwwwwwwwwwwwwwwwwwwwwwwwwwwwwwwwwwwwwwwwwwwwwwwwwwwwwwwwwwwwwwwwwwwwwwwwwwwwwwwwwwwwwwwwwwwwwwwwwwwwwwwwwwwwwwwwwwwwwwwwwwwwwwwwwwwwwwwwwwwwwwwwwwwwwwwwwwwwww\ndeliver 3 2 12\ndeliver 4 4 7\njoin c3 a 3 batch=both source=db limit=1\ndeliver 3 3 11\ndeliver 3 3 11\ndeliver 3 3 11\ndeliver 3 3 11\ndeliver 3 3 11\nflow\nrun 6\ntick 3\ndeliver 3 2 79\ndeliver 3 2 79\njoin c3 disk 2 batch=both limit=5 phases=n\ndeliver 3 4 46\ndeliver 3 2 80\ndeliver 3 2 80\nflow\nstart 4\nflow\nstate c3 disk 1 wwwwwwwwwwwwwwwwwwwwwwwwwwwwwwwwwwwwwwwwwwwwwwwwwwwwwwwwwwwwwwwwwwwwwwwwwwwwwwwwwwwwwwwwwwwwwwwwwwwwwwwwwwwwwwwwwwwwwwwwwwwwwwwwwwwwwwwwwwwwwwwwwwwwwwwwwwwwwwwwwwwwwwwwwwwwwwwwwwwwwwwwwwwwwwwwwwwwwwwwwwwwwwwwwwwwwwwwwwwwwwwwwwwwwwwwwwwwwwwwwwwwwwwwwwwwwwwwwwwwwwwwwwwwwwwwwwwwwwwwwwwwwwwwwwwwwwwwwwww\ndeliver 3 2 27\ndeliver 4 1 27\ndeliver 2 2 8\ndeliver 1 1 27\ndeliver 2 1 26\ndeliver 3 2 22\ndeliver 3 3 27\ndeliver 3 4 17\njoin c4 db 3 default=reject slimit=3 source=disk\nsubscribe c3 disk\nstate c3 disk 1 wwwwwwwwwwwwwwwwwwwwwwwwwwwwwwwwwwwwwwwwwwwwwwwwwwwwwwwwwwwwwwwwwwwwwwwwwwwwwwwwwwwwwwwwwwwwwwwwwwwwwwwwwwwwwwwwwwwwwwwwwwwwwwwwwwwwwwwwwwwwwwwwwwwwwwwwwwwwwwwwwwwwwwwwwwwwwwwwwwwwwwwwwwwwwwwwwwwwwwwwwwwwwwwwwwwwwwwwwwwwwwwwwwwwwwwwwwwwwwwwwwwwwwwwwwwwwwwwwwwwwwwwwwwwwwwwwwwwwwwwwwwwwwwwwwwwwwwwwwww\nvote c1 db A\nmessage c3 disk n hi\ndeliver 3 3 19\ndeliver 3 3 19\ndeliver 3 3 19\ndeliver 3 3 19\ndeliver 3 3 19\ndrop 1 3\ndeliver 3 4 49\ndeliver 2 2 28\ndeliver 3 2 83\ndeliver 2 2 28\nvote c3 disk A=v\ncut 1 4 2\nrun 5\nmessage c3 disk 1 hi\nsubscribe c3 disk\nattrs c3 disk 1 batch=both limit=5 phases=n\nexpel c3 disk n 3.1.2.8\ndeliver 3 3 22\ndeliver 3 3 22\ndeliver 3 3 22\ndeliver 1 4 6\ndeliver 3 2 28\ndeliver 3 2 11\ndeliver 3 4 3\ndeliver 4 1 8\ndrop 3 2\ncut 3 1\nrun 2\nrun 10\nexpel c3 disk n 3.1.2.8\ngoodbye c3\ndeliver 4 3 26\ndeliver 4 3 18\nclient 2 c4 A,A,A=blue%2C\njoin c4 db 2 default=approve sphases=1 limit=5 source=disk\nstate c3 a 1 ~\nflow\nstate c4 db n wwwwwwwwwwwwwwwwwwwwwwwwwwwwwwwwwwwwwwwwwwwwwwwwwwwwwwwwwwwwwwwwwwwwwwwwwwwwwwwwwwwwwwwwwwwwwwwwwwwwwwwwwwwwwwwwwwwwwwwwwwwwwwwwwwwwwwwwwwwwwwwwwwwwwwwwwwwwwwwwwwwwwwwwwwwwwwwwwwwwwwwwwwwwwwwwwwwwwwwwwwwwwwwwwwwwwwwwwwwwwwwwwwwwwwwwwwwwwwwwwwwwwwwwwwwwwwwwwwwwwwwwwwwwwwwwwwwwwwwwwwwwwwwwwwwwwwwwwwww\ndeliver 2 4 6\ndeliver 1 3 8\ndeliver 2 4 25\ndeliver 2 3 24\ndrop 3 3\nstate c1 z n red\nflow\nstate c1 db n wwwwwwwwwwwwwwwwwwwwwwwwwwwwwwwwwwwwwwwwwwwwwwwwwwwwwwwwwwwwwwwwwwwwwwwwwwwwwwwwwwwwwwwwwwwwwwwwwwwwwwwwwwwwwwwwwwwwwwwwwwwwwwwwwwwwwwwwwwwwwwwwwwwwwwwwwwwwwwwwwwwwwwwwwwwwwwwwwwwwwwwwwwwwwwwwwwwwwwwwwwwwwwwwwwwwwwwwwwwwwwwwwwwwwwwwwwwwwwwwwwwwwwwwwwwwwwwwwwwwwwwwwwwwwwwwwwwwwwwwwwwwwwwwwwwwwwwwwwww\nleave c4 db n\ndeliver 4 3 11\ndeliver 2 4 6\ndeliver 3 2 12\ndeliver 3 4 19\ndeliver 1 3 1\ndeliver 3 3 28\ndeliver 2 4 12\ndeliver 4 1 18\ndeliver 1 4 8\nflow\ndeliver 1 2 1\ndeliver 4 3 9\ndeliver 4 4 29\ndeliver 4 2 5\ndeliver 1 4 26\ndeliver 2 2 14\nstart 3\nflow\nstart 3\nmessage c4 db n x=1\ndeliver 2 4 13\ndeliver 1 2 17\ndeliver 2 3 17\ndeliver 3 2 1\ndeliver 3 4 8\ndeliver 1 4 14\ndeliver 3 1 17\nattrs c1 db 1 sphases=n batch=none source=disk phases=n limit=4\nmessage c4 db 1 x=1\nsubscribe c4 db\nstate c4 db n red\ngoodbye c4\nclient 1 c6 -\njoin c6 a 2 batch=joins default=approve limit=2\njoin c3 db 3 default=approve sphases=1 limit=5 source=disk\nclient 2 c7 -,-,A=blue%2C\njoin c7 db 1 default=approve sphases=1 limit=5 source=disk\nstart 1\nattrs c7 db 1 default=approve sphases=1 limit=5 source=disk\nstate c7 db 1 red\nattrs c7 db n default=approve sphases=1 limit=5 source=disk\nheal 2 4\nrun 2\nstate c7 db n up\nattrs c7 db n default=approve sphases=1 limit=5 source=disk\njoin c3 a 3 batch=joins default=approve limit=2\nstate c7 db n red\nflow\nsubscribe c7 db\ncut 1 2 2\nrun 1\ndrop 3 2\nsubscribe c6 a\nattrs c7 db n default=approve sphases=1 limit=5 source=disk\ndeliver 2 4 10\ndeliver 1 3 10\ndeliver 3 2 29\ndeliver 1 4 14\ndeliver 3 3 5\ndeliver 4 2 22\ndeliver 1 1 26\nflow\nrun 10\n") ≡ codes "up 2 1\nring 2 1 2.1.1 2 2\nin 2 1.2.1 2.1\nup 3 1\nring 3 1 3.1.1 3 3\nin 3 1.3.1 3.1\nup 4 1\nring 4 1 4.1.1 4 4\nin 4 1.4.1 4.1\nring 3 1 3.1.2 2,3 2\nring 4 1 4.1.2 2,4 2\nring 2 1 4.1.2 2,4 4\nin 2 2.2.1 2.1,4.1\nin 4 2.2.1 2.1,4.1\nring 4 1 4.1.3 2,3,4 3\nring 2 1 4.1.3 2,3,4 4\nring 3 1 4.1.3 2,3,4 2\nrefused 1.c1 NO_INIT\nrefused 1.c1 NO_INIT\nrefused 1.c1 NO_INIT\nrefused 1.c1 NO_INIT\nasked 3.1.1.1 1 a join\nput 3 1.3.1 a 0 once join 3.1.1.1 batch=joins limit=2\nheard 3.1.1.1 1.3.1 a 0 once-join 3.1.1.1 =\nasked 3.1.3.2 2 z join\nput 3 1.3.1 z 0 begin join 3.1.3.2 phases=n default=reject limit=2\nheard 3.1.3.2 1.3.1 z 0 begin-join - =\ncast 3.1.3.2 1.3.1/0 1 A\nin 2 3.2.1 2.1,3.1,4.1\nbase 2 3.2.1 a 1.3.1 1 3.1.1.1 = - -\nbase 2 3.2.1 z 1.3.1 1 - = - 1.3.1/0:1\nin 3 3.2.1 2.1,3.1,4.1\nbase 3 3.2.1 a 1.3.1 1 3.1.1.1 = - -\nbase 3 3.2.1 z 1.3.1 1 - = - 1.3.1/0:1\nin 4 3.2.1 2.1,3.1,4.1\nbase 4 3.2.1 a 1.3.1 1 3.1.1.1 = - -\nbase 4 3.2.1 z 1.3.1 1 - = - 1.3.1/0:1\nput 2 3.2.1 z 0 approve 1.3.1/0 1 3.1.3.2=A -\nput 3 3.2.1 z 0 approve 1.3.1/0 1 3.1.3.2=A -\nheard 3.1.3.2 3.2.1 z 0 approve 3.1.3.2 =\nput 4 3.2.1 z 0 approve 1.3.1/0 1 3.1.3.2=A -\nasked 3.1.3.2 3 z attrs\nput 2 3.2.1 z 1 once attrs 3.1.3.2/3 phases=n default=reject limit=2\nput 3 3.2.1 z 1 once attrs 3.1.3.2/3 phases=n default=reject limit=2\nheard 3.1.3.2 3.2.1 z 1 once-attrs 3.1.3.2 =\nrefused 1.c1 NO_INIT\nasked 3.1.3.2 4 z expel\nrefused 3.c3 COLLIDE 4\nput 2 3.2.1 z 2 begin expel 3.1.3.2/4 3.1.3.2\nput 2 3.2.1 z 3 approve 3.2.1/2 1 - -\nput 3 3.2.1 z 2 begin expel 3.1.3.2/4 3.1.3.2\nheard 3.1.3.2 3.2.1 z 2 begin-expel 3.1.3.2 =\nput 3 3.2.1 z 3 approve 3.2.1/2 1 - -\nheard 3.1.3.2 3.2.1 z 3 approve - =\nrefused 3.c3 BAD_PARAMETER subscription\nasked 3.1.1.1 5 a leave\nrefused 3.c3 COLLIDE 5\nput 3 3.2.1 a 0 begin leave 3.1.1.1/5\nheard 3.1.1.1 3.2.1 a 0 begin-leave 3.1.1.1 =\nput 3 3.2.1 a 1 approve 3.2.1/0 1 - -\nheard 3.1.1.1 3.2.1 a 1 approve - =\nput 2 3.2.1 a 0 begin leave 3.1.1.1/5\nput 4 3.2.1 a 0 begin leave 3.1.1.1/5\nput 2 3.2.1 a 1 approve 3.2.1/0 1 - -\nput 4 3.2.1 a 1 approve 3.2.1/0 1 - -\nput 4 3.2.1 z 1 once attrs 3.1.3.2/3 phases=n default=reject limit=2\nput 4 3.2.1 z 2 begin expel 3.1.3.2/4 3.1.3.2\nput 4 3.2.1 z 3 approve 3.2.1/2 1 - -\nasked 2.1.2.1 1 db join\nrefused 1.c1 NO_INIT\nrefused 1.c1 NO_INIT\nasked 3.1.1.6 6 db join\ntold 3.1.1.6 6 NO_SOURCE_GROUP_PROVIDER 0\nrefused 3.c3 BAD_MEMBER_TOKEN\nrefused 3.c3 BAD_MEMBER_TOKEN\nrefused 1.c1 NO_INIT\nrefused 1.c1 NO_INIT\nasked 3.1.3.7 7 a join\ntold 3.1.3.7 7 NO_SOURCE_GROUP_PROVIDER 0\nasked 3.1.2.8 8 disk join\nput 3 3.2.1 disk 0 begin join 3.1.2.8 phases=n batch=both limit=5\nheard 3.1.2.8 3.2.1 disk 0 begin-join - =\ncast 3.1.2.8 3.2.1/0 1 A\nput 2 3.2.1 disk 0 begin join 3.1.2.8 phases=n batch=both limit=5\nput 4 3.2.1 disk 0 begin join 3.1.2.8 phases=n batch=both limit=5\nput 3 3.2.1 disk 1 approve 3.2.1/0 1 3.1.2.8=A -\nheard 3.1.2.8 3.2.1 disk 1 approve 3.1.2.8 =\nput 2 3.2.1 disk 1 approve 3.2.1/0 1 3.1.2.8=A -\nput 4 3.2.1 disk 1 approve 3.2.1/0 1 3.1.2.8=A -\nrefused 3.c3 BAD_PARAMETER value\nrefused 2.c4 NO_INIT\nrefused 3.c3 BAD_PARAMETER value\nrefused 1.c1 NO_INIT\nasked 3.1.2.8 9 disk message\nput 3 3.2.1 disk 2 begin message 3.1.2.8/9 =hi\nheard 3.1.2.8 3.2.1 disk 2 begin-message 3.1.2.8 =\ncast 3.1.2.8 3.2.1/2 1 A\nput 4 3.2.1 disk 2 begin message 3.1.2.8/9 =hi\nput 2 3.2.1 disk 2 begin message 3.1.2.8/9 =hi\nrefused 3.c3 VOTE_NOT_EXPECTED\nput 3 3.2.1 disk 3 approve 3.2.1/2 1 3.1.2.8=A -\nheard 3.1.2.8 3.2.1 disk 3 approve 3.1.2.8 =\nput 2 3.2.1 disk 3 approve 3.2.1/2 1 3.1.2.8=A -\nput 4 3.2.1 disk 3 approve 3.2.1/2 1 3.1.2.8=A -\nasked 3.1.2.8 10 disk message\nrefused 3.c3 EXISTS\nrefused 3.c3 COLLIDE 10\nrefused 3.c3 COLLIDE 10\nput 3 3.2.1 disk 4 once message 3.1.2.8/10 =hi\nheard 3.1.2.8 3.2.1 disk 4 once-message 3.1.2.8 =\nput 4 3.2.1 disk 4 once message 3.1.2.8/10 =hi\nput 2 3.2.1 disk 4 once message 3.1.2.8/10 =hi\nasked 3.1.2.8 11 disk expel\nasked 2.1.2.2 2 db join\nrefused 3.c3 NO_INIT\nput 3 3.2.1 disk 5 begin expel 3.1.2.8/11 3.1.2.8\nput 3 3.2.1 disk 6 approve 3.2.1/5 1 - -\nput 2 3.2.1 disk 5 begin expel 3.1.2.8/11 3.1.2.8\nput 4 3.2.1 disk 5 begin expel 3.1.2.8/11 3.1.2.8\nput 2 3.2.1 disk 6 approve 3.2.1/5 1 - -\nput 4 3.2.1 disk 6 approve 3.2.1/5 1 - -\nrefused 2.c4 BAD_PARAMETER value\nrefused 1.c1 NO_INIT\nrefused 1.c1 NO_INIT\nrefused 2.c4 COLLIDE 2\nrefused 2.c4 COLLIDE 2\nrefused 1.c1 NO_INIT\nrefused 2.c4 COLLIDE 2\nrefused 2.c4 UNKNOWN_GROUP\nrefused 2.c4 COLLIDE 2\nrefused 1.c6 NO_INIT\nrefused 1.c6 NO_INIT\nrefused 3.c3 NO_INIT\nasked 2.1.1.3 3 db join\nup 1 1\nring 1 1 1.1.1 1 1\nin 1 1.1.1 1.1\nrefused 2.c7 COLLIDE 3\nrefused 2.c7 COLLIDE 3\nrefused 2.c7 COLLIDE 3\nring 4 1 4.1.4 1,2,3,4 3\nring 1 1 4.1.4 1,2,3,4 4\nring 2 1 4.1.4 1,2,3,4 1\nring 3 1 4.1.4 1,2,3,4 2\nrefused 2.c7 COLLIDE 3\nrefused 2.c7 COLLIDE 3\nrefused 3.c3 NO_INIT\nrefused 2.c7 COLLIDE 3\nrefused 2.c7 UNKNOWN_GROUP\nrefused 1.c6 NO_INIT\nrefused 2.c7 COLLIDE 3\nring 4 1 4.1.5 1,3,4 3\nring 1 1 4.1.5 1,3,4 4\nring 3 1 4.1.5 1,3,4 1\n"
unfolding all_opens
rings_level_08 = refl

pub rings_level_10 : transcript (codes "") (codes "mode rings\nnode 1\nnode 2\nnode 3\nadapter 1 1 10.1.0.9\nadapter 1 3 10.3.0.11\nadapter 2 1 10.1.0.16\nadapter 2 2 10.2.0.17\nadapter 2 3 10.3.0.18\nadapter 3 1 10.1.0.23\nadapter 3 2 10.2.0.24\nlevel 1 1\nlevel 2 1\nbegin\nstart 1\nstart 2\nstart 3\nrun 5\nclient 3 c1 -\njoin c1 db 3 slimit=3 phases=1 batch=none source=disk limit=4 default=approve\nflow\nclient 3 c2 A\njoin c2 db 2 slimit=3 phases=1 batch=none source=disk limit=4 default=approve\nflow\nclient 3 c3 C\njoin c3 db 2 slimit=3 phases=1 batch=none source=disk limit=4 default=approve\nclient 3 c4 -,A\njoin c4 db 2 slimit=3 phases=1 batch=none source=disk limit=4 default=approve\nflow\ndeliver 3 2 9\ndeliver 3 2 7\ndeliver 2 2 25\ndeliver 1 1 6\ndeliver 2 2 30\nflow\nflow\nmessage c1 db n ~\nflow\nflow\ntick 3\nvote c2 db A\nmessage c1 db n x=1\ndeliver 3 2 21\ndeliver 3 1 14\ndeliver 3 2 21\ndeliver 3 2 19\nunsubscribe c1 z\nvote c4 db A\njoin c4 a 3\nleave c4 a n\ndeliver 3 1 15\ndeliver 3 1 15\ndeliver 3 1 15\ndeliver 3 2 20\ndeliver 3 1 15\nleave c1 db n\ndrop 1 3\ntick 1\nstate c4 db n wwwwwwwwwwwwwwwwwwwwwwwwwwwwwwwwwwwwwwwwwwwwwwwwwwwwwwwwwwwwwwwwwwwwwwwwwwwwwwwwwwwwwwwwwwwwwwwwwwwwwwwwwwwwwwwwwwwwwwwwwwwwwwwwwwwwwwwwwwwwwwwwwwwwwwwwwwwwwwwwwwwwwwwwwwwwwwwwwwwwwwwwwwwwwwwwwwwwwwwwwwwwwwwwwwwwwwwwwwwwwwwwwwwwwwwwwwwwwwwwwwwwwwwwwwwwwwwwwwwwwwwwwwwwwwwwwwwwwwwwwwwwwwwwwwwwwwwwwwww\nattrs c4 a n\ndeliver 1 3 20\njoin c3 a 1 phases=n limit=0 source=disk batch=both default=approve\nclient 3 c5 A\njoin c5 z 1\nflow\nheal 3 2\nrun 7\nstate c5 z n wwwwwwwwwwwwwwwwwwwwwwwwwwwwwwwwwwwwwwwwwwwwwwwwwwwwwwwwwwwwwwwwwwwwwwwwwwwwwwwwwwwwwwwwwwwwwwwwwwwwwwwwwwwwwwwwwwwwwwwwwwwwwwwwwwwwwwwwwwwwwwwwwwwwwwwwwwwwwwwwwwwwwwwwwwwwwwwwwwwwwwwwwwwwwwwwwwwwwwwwwwwwwwwwwwwwwwwwwwwwwwwwwwwwwwwwwwwwwwwwwwwwwwwwwwwwwwwwwwwwwwwwwwwwwwwwwwwwwwwwwwwwwwwwwwwwwwwwwwww\nstate c5 z n red\nstate c4 a 1 up\ndeliver 3 3 14\ndeliver 3 3 13\ndeliver 3 3 13\nvote c5 z A\nstate c5 z n wwwwwwwwwwwwwwwwwwwwwwwwwwwwwwwwwwwwwwwwwwwwwwwwwwwwwwwwwwwwwwwwwwwwwwwwwwwwwwwwwwwwwwwwwwwwwwwwwwwwwwwwwwwwwwwwwwwwwwwwwwwwwwwwwwwwwwwwwwwwwwwwwwwwwwwwwwwwwwwwwwwwwwwwwwwwwwwwwwwwwwwwwwwwwwwwwwwwwwwwwwwwwwwwwwwwwwwwwwwwwwwwwwwwwwwwwwwwwwwwwwwwwwwwwwwwwwwwwwwwwwwwwwwwwwwwwwwwwwwwwwwwwwwwwwwwwwwwwwww\nattrs c4 a n\njoin c2 db 2 slimit=3 phases=1 batch=none source=disk limit=4 default=approve\ndeliver 3 1 27\ndeliver 3 3 16\ndeliver 3 3 17\ndeliver 3 1 28\ndeliver 3 1 27\nattrs c2 db n slimit=3 phases=1 batch=none source=disk limit=4 default=approve\ndrop 1 3\nexpel c3 db 1 3.2.3.2\nflow\njoin c4 z 3\ndeliver 3 3 19\ndeliver 3 3 19\nstate c5 z n ~\nmessage c4 z 1 x=1\ndrop 1 2\nflow\nvote c4 a C\ndeliver 3 3 24\nvote c5 z A\nstop 1\nvote c4 z A\nflow\nstate c4 a 1 ~\nleave c5 z n\nexpel c4 z n 3.1.3.12 3.1.1.7\ndeliver 3 3 29\ndeliver 3 3 28\ndeliver 1 1 12\ndeliver 3 2 8\ndeliver 1 3 22\ndeliver 1 2 21\ndeliver 3 2 14\ndeliver 1 1 12\nflow\nexpel c4 a n 3.1.3.5\ndeliver 3 3 31\ndeliver 3 3 31\ndeliver 3 3 31\ndeliver 3 3 31\ndeliver 3 3 31\ndeliver 3 2 57\ndeliver 3 2 58\ndeliver 3 1 39\ndeliver 3 1 39\ndeliver 3 2 58\nrun 5\ntick 2\nstop 2\nheal 3 1\nrun 1\nflow\nflow\n") ≡ codes "up 1 1\nring 1 1 1.1.1 1 1\nring 1 3 1.1.1 1 1\nin 1 1.1.1 1.1\nup 2 1\nring 2 1 2.1.1 2 2\nring 2 2 2.1.1 2 2\nring 2 3 2.1.1 2 2\nin 2 1.2.1 2.1\nup 3 1\nring 3 1 3.1.1 3 3\nring 3 2 3.1.1 3 3\nin 3 1.3.1 3.1\nring 2 1 2.1.2 1,2 1\nring 2 3 2.1.2 1,2 1\nring 3 1 3.1.2 1,3 1\nring 3 2 3.1.2 2,3 2\nring 1 3 2.1.2 1,2 2\nring 1 1 3.1.2 1,3 3\nring 2 2 3.1.2 2,3 3\nring 3 1 3.1.3 1,2,3 2\nring 1 1 3.1.3 1,2,3 3\nring 2 1 3.1.3 1,2,3 1\nin 1 2.1.1 1.1,2.1,3.1\nin 2 2.1.1 1.1,2.1,3.1\nin 3 2.1.1 1.1,2.1,3.1\nasked 3.1.3.1 1 db join\ntold 3.1.3.1 1 NO_SOURCE_GROUP_PROVIDER 0\nasked 3.1.2.2 2 db join\ntold 3.1.2.2 2 NO_SOURCE_GROUP_PROVIDER 0\nasked 3.1.2.3 3 db join\nasked 3.1.2.4 4 db join\ntold 3.1.2.3 3 NO_SOURCE_GROUP_PROVIDER 0\ntold 3.1.2.4 4 NO_SOURCE_GROUP_PROVIDER 0\nrefused 3.c1 BAD_MEMBER_TOKEN\nrefused 3.c2 BAD_MEMBER_TOKEN\nrefused 3.c1 BAD_MEMBER_TOKEN\nrefused 3.c1 BAD_PARAMETER subscription\nrefused 3.c4 BAD_MEMBER_TOKEN\nasked 3.1.3.5 5 a join\nrefused 3.c4 COLLIDE 5\nrefused 3.c1 BAD_MEMBER_TOKEN\nrefused 3.c4 BAD_MEMBER_TOKEN\nrefused 3.c4 COLLIDE 5\nasked 3.1.1.6 6 a join\nasked 3.1.1.7 7 z join\nput 3 2.1.1 a 0 once join 3.1.3.5\nheard 3.1.3.5 2.1.1 a 0 once-join 3.1.3.5 =\nput 3 2.1.1 z 0 once join 3.1.1.7\nheard 3.1.1.7 2.1.1 z 0 once-join 3.1.1.7 =\nput 1 2.1.1 a 0 once join 3.1.3.5\nput 2 2.1.1 a 0 once join 3.1.3.5\ntold 3.1.1.6 6 BAD_GROUP_ATTRIBUTES\nput 1 2.1.1 z 0 once join 3.1.1.7\nput 2 2.1.1 z 0 once join 3.1.1.7\nrefused 3.c5 BAD_PARAMETER value\nasked 3.1.1.7 8 z state\nasked 3.1.3.5 9 a state\nput 3 2.1.1 a 1 once state 3.1.3.5/9 =up\nheard 3.1.3.5 2.1.1 a 1 once-state 3.1.3.5 =up\nput 3 2.1.1 z 1 begin state 3.1.1.7/8 =red\nheard 3.1.1.7 2.1.1 z 1 begin-state 3.1.1.7 =\ncast 3.1.1.7 2.1.1/1 1 A\nrefused 3.c5 VOTE_NOT_EXPECTED\nrefused 3.c5 BAD_PARAMETER value\nasked 3.1.3.5 10 a attrs\nasked 3.1.2.11 11 db join\nput 1 2.1.1 a 1 once state 3.1.3.5/9 =up\nput 3 2.1.1 a 2 begin attrs 3.1.3.5/10\nheard 3.1.3.5 2.1.1 a 2 begin-attrs 3.1.3.5 =up\nput 1 2.1.1 z 1 begin state 3.1.1.7/8 =red\nrefused 3.c2 COLLIDE 11\nrefused 3.c3 BAD_MEMBER_TOKEN\nput 2 2.1.1 a 1 once state 3.1.3.5/9 =up\nput 2 2.1.1 z 1 begin state 3.1.1.7/8 =red\nput 3 2.1.1 z 2 approve 2.1.1/1 1 3.1.1.7=A -\nheard 3.1.1.7 2.1.1 z 2 approve 3.1.1.7 =red\nput 1 2.1.1 a 2 begin attrs 3.1.3.5/10\nput 2 2.1.1 a 2 begin attrs 3.1.3.5/10\ntold 3.1.2.11 11 NO_SOURCE_GROUP_PROVIDER 0\nput 1 2.1.1 z 2 approve 2.1.1/1 1 3.1.1.7=A -\nput 2 2.1.1 z 2 approve 2.1.1/1 1 3.1.1.7=A -\nasked 3.1.3.12 12 z join\nput 3 2.1.1 z 3 once join 3.1.3.12\nheard 3.1.1.7 2.1.1 z 3 once-join 3.1.1.7,3.1.3.12 =red\nheard 3.1.3.12 2.1.1 z 3 once-join 3.1.1.7,3.1.3.12 =red\nasked 3.1.1.7 13 z state\nasked 3.1.3.12 14 z message\nput 1 2.1.1 z 3 once join 3.1.3.12\nput 2 2.1.1 z 3 once join 3.1.3.12\nput 3 2.1.1 z 4 begin state 3.1.1.7/13 =\nheard 3.1.1.7 2.1.1 z 4 begin-state 3.1.1.7,3.1.3.12 =red\ncast 3.1.1.7 2.1.1/4 1 A\nheard 3.1.3.12 2.1.1 z 4 begin-state 3.1.1.7,3.1.3.12 =red\nput 1 2.1.1 z 4 begin state 3.1.1.7/13 =\nput 2 2.1.1 z 4 begin state 3.1.1.7/13 =\ntold 3.1.3.12 14 COLLIDE 2.1.1/4\ncast 3.1.3.5 2.1.1/2 1 C\nput 3 2.1.1 a 3 phase 2.1.1/2 1 3.1.3.5=C -\nheard 3.1.3.5 2.1.1 a 3 phase 3.1.3.5 =up\ncast 3.1.3.5 2.1.1/2 2 A\nrefused 3.c5 VOTE_NOT_EXPECTED\ndown 1\ncast 3.1.3.12 2.1.1/4 1 A\nput 2 2.1.1 a 3 phase 2.1.1/2 1 3.1.3.5=C -\nput 3 2.1.1 a 4 approve 2.1.1/2 2 3.1.3.5=A -\nheard 3.1.3.5 2.1.1 a 4 approve 3.1.3.5 =up\nput 3 2.1.1 z 5 approve 2.1.1/4 1 3.1.1.7=A,3.1.3.12=A -\nheard 3.1.1.7 2.1.1 z 5 approve 3.1.1.7,3.1.3.12 =\nheard 3.1.3.12 2.1.1 z 5 approve 3.1.1.7,3.1.3.12 =\nput 2 2.1.1 a 4 approve 2.1.1/2 2 3.1.3.5=A -\nput 2 2.1.1 z 5 approve 2.1.1/4 1 3.1.1.7=A,3.1.3.12=A -\nasked 3.1.3.5 15 a state\nasked 3.1.1.7 16 z leave\nasked 3.1.3.12 17 z expel\nput 3 2.1.1 z 6 begin expel 3.1.3.12/17 3.1.3.12,3.1.1.7\nheard 3.1.1.7 2.1.1 z 6 begin-expel 3.1.1.7,3.1.3.12 =\nheard 3.1.3.12 2.1.1 z 6 begin-expel 3.1.1.7,3.1.3.12 =\nput 3 2.1.1 z 7 approve 2.1.1/6 1 - -\nheard 3.1.1.7 2.1.1 z 7 approve - =\nheard 3.1.3.12 2.1.1 z 7 approve - =\nput 3 2.1.1 a 5 once state 3.1.3.5/15 =\nheard 3.1.3.5 2.1.1 a 5 once-state 3.1.3.5 =\nput 2 2.1.1 z 6 begin expel 3.1.3.12/17 3.1.3.12,3.1.1.7\nput 2 2.1.1 z 7 approve 2.1.1/6 1 - -\nput 2 2.1.1 a 5 once state 3.1.3.5/15 =\nasked 3.1.3.5 18 a expel\nput 3 2.1.1 a 6 begin expel 3.1.3.5/18 3.1.3.5\nheard 3.1.3.5 2.1.1 a 6 begin-expel 3.1.3.5 =\nput 3 2.1.1 a 7 approve 2.1.1/6 1 - -\nheard 3.1.3.5 2.1.1 a 7 approve - =\nput 2 2.1.1 a 6 begin expel 3.1.3.5/18 3.1.3.5\nput 2 2.1.1 a 7 approve 2.1.1/6 1 - -\nring 2 3 2.1.3 2 2\nring 3 1 3.1.4 2,3 2\nring 2 1 3.1.4 2,3 3\ndown 2\n"
unfolding all_opens
rings_level_10 = refl
