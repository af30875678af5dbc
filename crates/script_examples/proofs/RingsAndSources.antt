-- Rings, source groups and scripts that are none: whole transcripts.
use Rattle.std.specs.Prelude.{◌≡◌, codes}
use Rattle.std.proofs.Common.{refl}
use Rattle.world_model.specs.Play.{transcript}
use Rattle.script_examples.specs.Opens.{all_opens}

pub rings_age_is_four : transcript (codes "") (codes "node 1\nnode 2\nnode 3\nhb 1 2\nbegin\nstart 1\nstart 2\nstart 3\nrun 4\ntick 3\nrun 3\nstop 3\nrun 3\nrun 1\nstop 2\ntick 1\nrun 3\nrun 1\nstart 2\nrun 3\n") ≡ codes "up 1 1\nring 1 1 1.1.1 1 1\nin 1 1.1.1 1.1\nup 2 1\nring 2 1 2.1.1 2 2\nin 2 1.2.1 2.1\nup 3 1\nring 3 1 3.1.1 3 3\nin 3 1.3.1 3.1\nring 2 1 2.1.2 1,2 1\nring 3 1 3.1.2 1,3 1\nring 1 1 3.1.2 1,3 3\nring 3 1 3.1.3 1,2,3 2\nring 1 1 3.1.3 1,2,3 3\nring 2 1 3.1.3 1,2,3 1\nin 1 2.1.1 1.1,2.1,3.1\nin 2 2.1.1 1.1,2.1,3.1\nin 3 2.1.1 1.1,2.1,3.1\nring 3 1 3.1.4 2,3 2\nring 2 1 3.1.4 2,3 3\nin 2 3.2.1 2.1,3.1\nin 3 3.2.1 2.1,3.1\ndown 3\nring 2 1 2.1.3 2 2\nin 2 4.2.1 2.1\nring 1 1 1.1.2 1 1\nin 1 3.1.1 1.1\nring 2 1 2.1.4 1,2 1\nring 1 1 2.1.4 1,2 2\ndown 2\nring 1 1 1.1.3 1 1\nup 2 2\nring 2 1 2.2.1 2 2\nin 2 1.2.2 2.2\nring 2 1 2.2.2 1,2 1\nring 1 1 2.2.2 1,2 2\nin 1 5.1.1 1.1,2.2\nin 2 5.1.1 1.1,2.2\n"
unfolding all_opens
rings_age_is_four = refl

pub rings_commit_while_gathering : transcript (codes "") (codes "node 1\nnode 3\nnode 4\nnode 5\nbegin\nstart 1\nstart 3\nstart 4\nstart 5\nrun 4\nstop 4\nstart 4\ndeliver 4 5 6\nstop 1\nflow\ndeliver 3 4 4\nrun 1\ntick 5\nflow\nrun 1\n") ≡ codes "up 1 1\nring 1 1 1.1.1 1 1\nin 1 1.1.1 1.1\nup 3 1\nring 3 1 3.1.1 3 3\nin 3 1.3.1 3.1\nup 4 1\nring 4 1 4.1.1 4 4\nin 4 1.4.1 4.1\nup 5 1\nring 5 1 5.1.1 5 5\nin 5 1.5.1 5.1\nring 3 1 3.1.2 1,3 1\nring 4 1 4.1.2 1,4 1\nring 5 1 5.1.2 1,5 1\nring 1 1 5.1.2 1,5 5\nring 4 1 4.1.3 1,3,4 3\nring 5 1 5.1.3 1,3,5 3\nring 1 1 5.1.3 1,3,5 5\nring 3 1 5.1.3 1,3,5 1\nin 1 2.1.1 1.1,3.1,5.1\nin 3 2.1.1 1.1,3.1,5.1\nin 5 2.1.1 1.1,3.1,5.1\nring 5 1 5.1.4 1,3,4,5 4\nring 1 1 5.1.4 1,3,4,5 5\nring 3 1 5.1.4 1,3,4,5 1\nring 4 1 5.1.4 1,3,4,5 3\nin 1 3.1.1 1.1,3.1,4.1,5.1\nin 3 3.1.1 1.1,3.1,4.1,5.1\nin 4 3.1.1 1.1,3.1,4.1,5.1\nin 5 3.1.1 1.1,3.1,4.1,5.1\ndown 4\nup 4 2\nring 4 1 4.2.1 4 4\nin 4 1.4.2 4.2\ndown 1\nring 5 1 5.1.5 3,4,5 4\nring 4 1 5.1.5 3,4,5 3\nring 4 1 4.2.2 3,4 3\nring 3 1 4.2.2 3,4 4\n"
unfolding all_opens
rings_commit_while_gathering = refl

pub rings_three_nodes_one_stops : transcript (codes "") (codes "mode rings\nnode 1\nnode 2\nnode 3\nbegin\nstart 1\nstart 2\nstart 3\nrun 2\nstop 3\nrun 4\n") ≡ codes "up 1 1\nring 1 1 1.1.1 1 1\nin 1 1.1.1 1.1\nup 2 1\nring 2 1 2.1.1 2 2\nin 2 1.2.1 2.1\nup 3 1\nring 3 1 3.1.1 3 3\nin 3 1.3.1 3.1\nring 2 1 2.1.2 1,2 1\nring 3 1 3.1.2 1,3 1\nring 1 1 3.1.2 1,3 3\nring 3 1 3.1.3 1,2,3 2\nring 1 1 3.1.3 1,2,3 3\nring 2 1 3.1.3 1,2,3 1\ndown 3\nring 2 1 2.1.3 1,2 1\nring 1 1 2.1.3 1,2 2\n"
unfolding all_opens
rings_three_nodes_one_stops = refl

pub rings_two_nodes_cut : transcript (codes "") (codes "mode rings\nnode 1\nnode 2\nbegin\nstart 1\nstart 2\ncut 1 2\nrun 3\n") ≡ codes "up 1 1\nring 1 1 1.1.1 1 1\nin 1 1.1.1 1.1\nup 2 1\nring 2 1 2.1.1 2 2\nin 2 1.2.1 2.1\n"
unfolding all_opens
rings_two_nodes_cut = refl

pub rings_two_nodes : transcript (codes "") (codes "mode rings\nnode 1\nnode 2\nbegin\nstart 1\nstart 2\nrun 3\n") ≡ codes "up 1 1\nring 1 1 1.1.1 1 1\nin 1 1.1.1 1.1\nup 2 1\nring 2 1 2.1.1 2 2\nin 2 1.2.1 2.1\nring 2 1 2.1.2 1,2 1\nring 1 1 2.1.2 1,2 2\nin 1 2.1.1 1.1,2.1\nin 2 2.1.1 1.1,2.1\n"
unfolding all_opens
rings_two_nodes = refl

pub sources_admission_and_cast_out : transcript (codes "") (codes "mode fixed\nnode 1\nnode 2\nbegin\nclient 1 a A\nclient 2 b A\nclient 2 c A\njoin a disk 1\nflow\njoin b db 1 source=disk\nflow\njoin c disk 2\nflow\njoin b db 1 source=disk\nflow\nleave c disk 1\nflow\n") ≡ codes "up 1 1\nin 1 1.1.1 1.1,2.1\nup 2 1\nin 2 1.1.1 1.1,2.1\nasked 1.1.1.1 1 disk join\nput 1 1.1.1 disk 0 once join 1.1.1.1\nheard 1.1.1.1 1.1.1 disk 0 once-join 1.1.1.1 =\nput 2 1.1.1 disk 0 once join 1.1.1.1\nasked 2.1.1.1 1 db join\ntold 2.1.1.1 1 NO_SOURCE_GROUP_PROVIDER 1\nasked 2.1.2.2 2 disk join\nput 1 1.1.1 disk 1 once join 2.1.2.2\nheard 1.1.1.1 1.1.1 disk 1 once-join 1.1.1.1,2.1.2.2 =\nput 2 1.1.1 disk 1 once join 2.1.2.2\nheard 2.1.2.2 1.1.1 disk 1 once-join 1.1.1.1,2.1.2.2 =\nasked 2.1.1.3 3 db join\nput 1 1.1.1 db 0 once join 2.1.1.3 source=disk src=2\nput 2 1.1.1 db 0 once join 2.1.1.3 source=disk src=2\nheard 2.1.1.3 1.1.1 db 0 once-join 2.1.1.3 =\nasked 2.1.2.2 4 disk leave\nput 1 1.1.1 disk 2 once leave 2.1.2.2/4\nheard 1.1.1.1 1.1.1 disk 2 once-leave 1.1.1.1 =\nput 1 1.1.1 db 1 once fail 2.1.1.3:cast\nput 2 1.1.1 disk 2 once leave 2.1.2.2/4\nheard 2.1.2.2 1.1.1 disk 2 once-leave 1.1.1.1 =\nput 2 1.1.1 db 1 once fail 2.1.1.3:cast\nheard 2.1.1.3 1.1.1 db 1 once-fail - =\n"
unfolding all_opens
sources_admission_and_cast_out = refl

pub sources_disks_and_databases : transcript (codes "") (codes "mode asked\nnode 1\nnode 2\nnode 3\nnode 4\nnode 5\nnode 6\nnode 7\nnode 8\nadapter 1 1 10.1.0.1\nadapter 1 2 10.2.0.1\nadapter 2 1 10.1.0.2\nadapter 2 2 10.2.0.2\nadapter 3 1 10.1.0.3\nadapter 3 2 10.2.0.3\nadapter 4 1 10.1.0.4\nadapter 4 2 10.2.0.4\nadapter 5 1 10.1.0.5\nadapter 5 2 10.2.0.5\nadapter 6 1 10.1.0.6\nadapter 6 2 10.2.0.6\nadapter 7 1 10.1.0.7\nadapter 7 2 10.2.0.7\nadapter 8 1 10.1.0.8\nadapter 8 2 10.2.0.8\nbegin\nstart 1\nstart 2\nstart 3\nstart 4\nstart 5\nstart 6\nstart 7\nstart 8\nask 1 1 2 3 4 5 6 7 8\nflow\nclient 1 d1 A\nclient 2 d2 A\nclient 2 b2 A\nclient 3 d3 A\nclient 3 b3 A\njoin d1 disks 1\nflow\njoin d2 disks 1\nflow\njoin d3 disks 1\nflow\njoin b2 db 2 source=disks\nflow\njoin b3 db 2 source=disks\nflow\nstate b2 db n node2\nflow\nstop 2\nask 1 1 3 4 5 6 7 8\nflow\nstart 2\nask 1 1 2 3 4 5 6 7 8\nflow\nclient 2 e2 A\nclient 2 f2 A\njoin e2 disks 1\nflow\njoin f2 db 2 source=disks\nflow\n") ≡ codes "up 1 1\nin 1 1.1.1 1.1\nup 2 1\nin 2 1.2.1 2.1\nup 3 1\nin 3 1.3.1 3.1\nup 4 1\nin 4 1.4.1 4.1\nup 5 1\nin 5 1.5.1 5.1\nup 6 1\nin 6 1.6.1 6.1\nup 7 1\nin 7 1.7.1 7.1\nup 8 1\nin 8 1.8.1 8.1\nin 1 2.1.1 1.1,2.1,3.1,4.1,5.1,6.1,7.1,8.1\nin 2 2.1.1 1.1,2.1,3.1,4.1,5.1,6.1,7.1,8.1\nin 3 2.1.1 1.1,2.1,3.1,4.1,5.1,6.1,7.1,8.1\nin 4 2.1.1 1.1,2.1,3.1,4.1,5.1,6.1,7.1,8.1\nin 5 2.1.1 1.1,2.1,3.1,4.1,5.1,6.1,7.1,8.1\nin 6 2.1.1 1.1,2.1,3.1,4.1,5.1,6.1,7.1,8.1\nin 7 2.1.1 1.1,2.1,3.1,4.1,5.1,6.1,7.1,8.1\nin 8 2.1.1 1.1,2.1,3.1,4.1,5.1,6.1,7.1,8.1\nasked 1.1.1.1 1 disks join\nput 1 2.1.1 disks 0 once join 1.1.1.1\nheard 1.1.1.1 2.1.1 disks 0 once-join 1.1.1.1 =\nput 2 2.1.1 disks 0 once join 1.1.1.1\nput 3 2.1.1 disks 0 once join 1.1.1.1\nput 4 2.1.1 disks 0 once join 1.1.1.1\nput 5 2.1.1 disks 0 once join 1.1.1.1\nput 6 2.1.1 disks 0 once join 1.1.1.1\nput 7 2.1.1 disks 0 once join 1.1.1.1\nput 8 2.1.1 disks 0 once join 1.1.1.1\nasked 2.1.1.1 1 disks join\nput 1 2.1.1 disks 1 once join 2.1.1.1\nheard 1.1.1.1 2.1.1 disks 1 once-join 1.1.1.1,2.1.1.1 =\nput 2 2.1.1 disks 1 once join 2.1.1.1\nheard 2.1.1.1 2.1.1 disks 1 once-join 1.1.1.1,2.1.1.1 =\nput 3 2.1.1 disks 1 once join 2.1.1.1\nput 4 2.1.1 disks 1 once join 2.1.1.1\nput 5 2.1.1 disks 1 once join 2.1.1.1\nput 6 2.1.1 disks 1 once join 2.1.1.1\nput 7 2.1.1 disks 1 once join 2.1.1.1\nput 8 2.1.1 disks 1 once join 2.1.1.1\nasked 3.1.1.1 1 disks join\nput 1 2.1.1 disks 2 once join 3.1.1.1\nheard 1.1.1.1 2.1.1 disks 2 once-join 1.1.1.1,2.1.1.1,3.1.1.1 =\nput 2 2.1.1 disks 2 once join 3.1.1.1\nheard 2.1.1.1 2.1.1 disks 2 once-join 1.1.1.1,2.1.1.1,3.1.1.1 =\nput 3 2.1.1 disks 2 once join 3.1.1.1\nheard 3.1.1.1 2.1.1 disks 2 once-join 1.1.1.1,2.1.1.1,3.1.1.1 =\nput 4 2.1.1 disks 2 once join 3.1.1.1\nput 5 2.1.1 disks 2 once join 3.1.1.1\nput 6 2.1.1 disks 2 once join 3.1.1.1\nput 7 2.1.1 disks 2 once join 3.1.1.1\nput 8 2.1.1 disks 2 once join 3.1.1.1\nasked 2.1.2.2 2 db join\nput 2 2.1.1 db 0 once join 2.1.2.2 source=disks src=3\nheard 2.1.2.2 2.1.1 db 0 once-join 2.1.2.2 =\nput 1 2.1.1 db 0 once join 2.1.2.2 source=disks src=3\nput 3 2.1.1 db 0 once join 2.1.2.2 source=disks src=3\nput 4 2.1.1 db 0 once join 2.1.2.2 source=disks src=3\nput 5 2.1.1 db 0 once join 2.1.2.2 source=disks src=3\nput 6 2.1.1 db 0 once join 2.1.2.2 source=disks src=3\nput 7 2.1.1 db 0 once join 2.1.2.2 source=disks src=3\nput 8 2.1.1 db 0 once join 2.1.2.2 source=disks src=3\nasked 3.1.2.2 2 db join\nput 2 2.1.1 db 1 once join 3.1.2.2 source=disks src=3\nheard 2.1.2.2 2.1.1 db 1 once-join 2.1.2.2,3.1.2.2 =\nput 1 2.1.1 db 1 once join 3.1.2.2 source=disks src=3\nput 3 2.1.1 db 1 once join 3.1.2.2 source=disks src=3\nheard 3.1.2.2 2.1.1 db 1 once-join 2.1.2.2,3.1.2.2 =\nput 4 2.1.1 db 1 once join 3.1.2.2 source=disks src=3\nput 5 2.1.1 db 1 once join 3.1.2.2 source=disks src=3\nput 6 2.1.1 db 1 once join 3.1.2.2 source=disks src=3\nput 7 2.1.1 db 1 once join 3.1.2.2 source=disks src=3\nput 8 2.1.1 db 1 once join 3.1.2.2 source=disks src=3\nasked 2.1.2.2 3 db state\nput 2 2.1.1 db 2 begin state 2.1.2.2/3 =node2\nheard 2.1.2.2 2.1.1 db 2 begin-state 2.1.2.2,3.1.2.2 =\ncast 2.1.2.2 2.1.1/2 1 A\nput 1 2.1.1 db 2 begin state 2.1.2.2/3 =node2\nput 3 2.1.1 db 2 begin state 2.1.2.2/3 =node2\nheard 3.1.2.2 2.1.1 db 2 begin-state 2.1.2.2,3.1.2.2 =\ncast 3.1.2.2 2.1.1/2 1 A\nput 4 2.1.1 db 2 begin state 2.1.2.2/3 =node2\nput 5 2.1.1 db 2 begin state 2.1.2.2/3 =node2\nput 6 2.1.1 db 2 begin state 2.1.2.2/3 =node2\nput 7 2.1.1 db 2 begin state 2.1.2.2/3 =node2\nput 8 2.1.1 db 2 begin state 2.1.2.2/3 =node2\nput 2 2.1.1 db 3 approve 2.1.1/2 1 2.1.2.2=A,3.1.2.2=A -\nheard 2.1.2.2 2.1.1 db 3 approve 2.1.2.2,3.1.2.2 =node2\nput 1 2.1.1 db 3 approve 2.1.1/2 1 2.1.2.2=A,3.1.2.2=A -\nput 3 2.1.1 db 3 approve 2.1.1/2 1 2.1.2.2=A,3.1.2.2=A -\nheard 3.1.2.2 2.1.1 db 3 approve 2.1.2.2,3.1.2.2 =node2\nput 4 2.1.1 db 3 approve 2.1.1/2 1 2.1.2.2=A,3.1.2.2=A -\nput 5 2.1.1 db 3 approve 2.1.1/2 1 2.1.2.2=A,3.1.2.2=A -\nput 6 2.1.1 db 3 approve 2.1.1/2 1 2.1.2.2=A,3.1.2.2=A -\nput 7 2.1.1 db 3 approve 2.1.1/2 1 2.1.2.2=A,3.1.2.2=A -\nput 8 2.1.1 db 3 approve 2.1.1/2 1 2.1.2.2=A,3.1.2.2=A -\ndown 2\nin 1 3.1.1 1.1,3.1,4.1,5.1,6.1,7.1,8.1\nbase 1 3.1.1 db 2.1.1 4 2.1.2.2,3.1.2.2 =node2 2.1.2.2 -\nbase 1 3.1.1 disks 2.1.1 3 1.1.1.1,2.1.1.1,3.1.1.1 = 2.1.1.1 -\nput 1 3.1.1 disks 0 once fail 2.1.1.1:died\nheard 1.1.1.1 3.1.1 disks 0 once-fail 1.1.1.1,3.1.1.1 =\nin 3 3.1.1 1.1,3.1,4.1,5.1,6.1,7.1,8.1\nbase 3 3.1.1 db 2.1.1 4 2.1.2.2,3.1.2.2 =node2 2.1.2.2 -\nbase 3 3.1.1 disks 2.1.1 3 1.1.1.1,2.1.1.1,3.1.1.1 = 2.1.1.1 -\nput 3 3.1.1 db 0 once fail 2.1.2.2:died\nheard 3.1.2.2 3.1.1 db 0 once-fail 3.1.2.2 =node2\nin 4 3.1.1 1.1,3.1,4.1,5.1,6.1,7.1,8.1\nbase 4 3.1.1 db 2.1.1 4 2.1.2.2,3.1.2.2 =node2 2.1.2.2 -\nbase 4 3.1.1 disks 2.1.1 3 1.1.1.1,2.1.1.1,3.1.1.1 = 2.1.1.1 -\nin 5 3.1.1 1.1,3.1,4.1,5.1,6.1,7.1,8.1\nbase 5 3.1.1 db 2.1.1 4 2.1.2.2,3.1.2.2 =node2 2.1.2.2 -\nbase 5 3.1.1 disks 2.1.1 3 1.1.1.1,2.1.1.1,3.1.1.1 = 2.1.1.1 -\nin 6 3.1.1 1.1,3.1,4.1,5.1,6.1,7.1,8.1\nbase 6 3.1.1 db 2.1.1 4 2.1.2.2,3.1.2.2 =node2 2.1.2.2 -\nbase 6 3.1.1 disks 2.1.1 3 1.1.1.1,2.1.1.1,3.1.1.1 = 2.1.1.1 -\nin 7 3.1.1 1.1,3.1,4.1,5.1,6.1,7.1,8.1\nbase 7 3.1.1 db 2.1.1 4 2.1.2.2,3.1.2.2 =node2 2.1.2.2 -\nbase 7 3.1.1 disks 2.1.1 3 1.1.1.1,2.1.1.1,3.1.1.1 = 2.1.1.1 -\nin 8 3.1.1 1.1,3.1,4.1,5.1,6.1,7.1,8.1\nbase 8 3.1.1 db 2.1.1 4 2.1.2.2,3.1.2.2 =node2 2.1.2.2 -\nbase 8 3.1.1 disks 2.1.1 3 1.1.1.1,2.1.1.1,3.1.1.1 = 2.1.1.1 -\nput 3 3.1.1 disks 0 once fail 2.1.1.1:died\nheard 3.1.1.1 3.1.1 disks 0 once-fail 1.1.1.1,3.1.1.1 =\nput 4 3.1.1 disks 0 once fail 2.1.1.1:died\nput 5 3.1.1 disks 0 once fail 2.1.1.1:died\nput 6 3.1.1 disks 0 once fail 2.1.1.1:died\nput 7 3.1.1 disks 0 once fail 2.1.1.1:died\nput 8 3.1.1 disks 0 once fail 2.1.1.1:died\nput 1 3.1.1 db 0 once fail 2.1.2.2:died\nput 4 3.1.1 db 0 once fail 2.1.2.2:died\nput 5 3.1.1 db 0 once fail 2.1.2.2:died\nput 6 3.1.1 db 0 once fail 2.1.2.2:died\nput 7 3.1.1 db 0 once fail 2.1.2.2:died\nput 8 3.1.1 db 0 once fail 2.1.2.2:died\nup 2 2\nin 2 1.2.2 2.2\nin 1 4.1.1 1.1,2.2,3.1,4.1,5.1,6.1,7.1,8.1\nbase 1 4.1.1 db 3.1.1 1 3.1.2.2 =node2 - -\nbase 1 4.1.1 disks 3.1.1 1 1.1.1.1,3.1.1.1 = - -\nin 2 4.1.1 1.1,2.2,3.1,4.1,5.1,6.1,7.1,8.1\nbase 2 4.1.1 db 3.1.1 1 3.1.2.2 =node2 - -\nbase 2 4.1.1 disks 3.1.1 1 1.1.1.1,3.1.1.1 = - -\nin 3 4.1.1 1.1,2.2,3.1,4.1,5.1,6.1,7.1,8.1\nbase 3 4.1.1 db 3.1.1 1 3.1.2.2 =node2 - -\nbase 3 4.1.1 disks 3.1.1 1 1.1.1.1,3.1.1.1 = - -\nin 4 4.1.1 1.1,2.2,3.1,4.1,5.1,6.1,7.1,8.1\nbase 4 4.1.1 db 3.1.1 1 3.1.2.2 =node2 - -\nbase 4 4.1.1 disks 3.1.1 1 1.1.1.1,3.1.1.1 = - -\nin 5 4.1.1 1.1,2.2,3.1,4.1,5.1,6.1,7.1,8.1\nbase 5 4.1.1 db 3.1.1 1 3.1.2.2 =node2 - -\nbase 5 4.1.1 disks 3.1.1 1 1.1.1.1,3.1.1.1 = - -\nin 6 4.1.1 1.1,2.2,3.1,4.1,5.1,6.1,7.1,8.1\nbase 6 4.1.1 db 3.1.1 1 3.1.2.2 =node2 - -\nbase 6 4.1.1 disks 3.1.1 1 1.1.1.1,3.1.1.1 = - -\nin 7 4.1.1 1.1,2.2,3.1,4.1,5.1,6.1,7.1,8.1\nbase 7 4.1.1 db 3.1.1 1 3.1.2.2 =node2 - -\nbase 7 4.1.1 disks 3.1.1 1 1.1.1.1,3.1.1.1 = - -\nin 8 4.1.1 1.1,2.2,3.1,4.1,5.1,6.1,7.1,8.1\nbase 8 4.1.1 db 3.1.1 1 3.1.2.2 =node2 - -\nbase 8 4.1.1 disks 3.1.1 1 1.1.1.1,3.1.1.1 = - -\nasked 2.2.1.1 1 disks join\nput 1 4.1.1 disks 0 once join 2.2.1.1\nheard 1.1.1.1 4.1.1 disks 0 once-join 1.1.1.1,3.1.1.1,2.2.1.1 =\nput 2 4.1.1 disks 0 once join 2.2.1.1\nheard 2.2.1.1 4.1.1 disks 0 once-join 1.1.1.1,3.1.1.1,2.2.1.1 =\nput 3 4.1.1 disks 0 once join 2.2.1.1\nheard 3.1.1.1 4.1.1 disks 0 once-join 1.1.1.1,3.1.1.1,2.2.1.1 =\nput 4 4.1.1 disks 0 once join 2.2.1.1\nput 5 4.1.1 disks 0 once join 2.2.1.1\nput 6 4.1.1 disks 0 once join 2.2.1.1\nput 7 4.1.1 disks 0 once join 2.2.1.1\nput 8 4.1.1 disks 0 once join 2.2.1.1\nasked 2.2.2.2 2 db join\nput 3 4.1.1 db 0 once join 2.2.2.2 source=disks src=1\nheard 3.1.2.2 4.1.1 db 0 once-join 3.1.2.2,2.2.2.2 =node2\nput 1 4.1.1 db 0 once join 2.2.2.2 source=disks src=1\nput 2 4.1.1 db 0 once join 2.2.2.2 source=disks src=1\nheard 2.2.2.2 4.1.1 db 0 once-join 3.1.2.2,2.2.2.2 =node2\nput 4 4.1.1 db 0 once join 2.2.2.2 source=disks src=1\nput 5 4.1.1 db 0 once join 2.2.2.2 source=disks src=1\nput 6 4.1.1 db 0 once join 2.2.2.2 source=disks src=1\nput 7 4.1.1 db 0 once join 2.2.2.2 source=disks src=1\nput 8 4.1.1 db 0 once join 2.2.2.2 source=disks src=1\n"
unfolding all_opens
sources_disks_and_databases = refl

pub sources_subscriptions : transcript (codes "") (codes "mode asked\nnode 1\nnode 2\nbegin\nstart 1\nstart 2\nclient 1 s A\nsubscribe s HostMembership\nsubscribe s db\nask 1 1 2\nflow\n") ≡ codes "up 1 1\nin 1 1.1.1 1.1\nup 2 1\nin 2 1.2.1 2.1\nrefused 1.s UNKNOWN_GROUP\nin 1 2.1.1 1.1,2.1\nnoted 1.s 2.1.1 HostMembership - 1.1,2.1 =\nin 2 2.1.1 1.1,2.1\n"
unfolding all_opens
sources_subscriptions = refl

pub lines_no_last_line_feed : transcript (codes "") (codes "mode fixed\nnode 1\nbegin\nflow") ≡ codes "hags: line 4: missing word\n"
unfolding all_opens
lines_no_last_line_feed = refl

pub lines_unknown_word : transcript (codes "") (codes "mode fixed\nnode 1\nbegin\njoi a db 1\n") ≡ codes "hags: line 4: unknown word\n"
unfolding all_opens
lines_unknown_word = refl
