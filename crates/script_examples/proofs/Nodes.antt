-- One node and several, with packets that are given by hand: whole transcripts.
use Rattle.std.specs.Prelude.{◌≡◌, codes}
use Rattle.std.proofs.Common.{refl}
use Rattle.world_model.specs.Play.{transcript}
use Rattle.script_examples.specs.Opens.{all_opens}

pub one_node_empty : transcript (codes "") (codes "") ≡ codes ""
unfolding all_opens
one_node_empty = refl

pub one_node_nothing_asked : transcript (codes "") (codes "mode fixed\nnode 1\nbegin\nclient 1 a A\n") ≡ codes "up 1 1\nin 1 1.1.1 1.1\n"
unfolding all_opens
one_node_nothing_asked = refl

pub one_node_one_join : transcript (codes "") (codes "mode fixed\nnode 1\nbegin\nclient 1 a A\njoin a db 7\nflow\nshow 1 hagsgr\n") ≡ codes "up 1 1\nin 1 1.1.1 1.1\nasked 1.1.7.1 1 db join\nput 1 1.1.1 db 0 once join 1.1.7.1\nheard 1.1.7.1 1.1.1 db 0 once-join 1.1.7.1 =\nshow 1 hagsgr db leader=1 len=1 members=1.1.7.1 value=\n"
unfolding all_opens
one_node_one_join = refl

pub one_node_second_join_refused : transcript (codes "") (codes "mode fixed\nnode 1\nbegin\nclient 1 a A\njoin a db 7\njoin a db 8\nflow\njoin a db 9\nflow\nshow 1 hagsgr\n") ≡ codes "up 1 1\nin 1 1.1.1 1.1\nasked 1.1.7.1 1 db join\nrefused 1.a EXISTS\nput 1 1.1.1 db 0 once join 1.1.7.1\nheard 1.1.7.1 1.1.1 db 0 once-join 1.1.7.1 =\nrefused 1.a EXISTS\nshow 1 hagsgr db leader=1 len=1 members=1.1.7.1 value=\n"
unfolding all_opens
one_node_second_join_refused = refl

pub one_node_two_groups : transcript (codes "") (codes "mode fixed\nnode 1\nbegin\nclient 1 a A\njoin a db 7\njoin a disk 7\nshow 1 hagsgr\nflow\nshow 1 hagsgr\n") ≡ codes "up 1 1\nin 1 1.1.1 1.1\nasked 1.1.7.1 1 db join\nasked 1.1.7.2 2 disk join\nput 1 1.1.1 db 0 once join 1.1.7.1\nheard 1.1.7.1 1.1.1 db 0 once-join 1.1.7.1 =\nput 1 1.1.1 disk 0 once join 1.1.7.2\nheard 1.1.7.2 1.1.1 disk 0 once-join 1.1.7.2 =\nshow 1 hagsgr db leader=1 len=1 members=1.1.7.1 value=\nshow 1 hagsgr disk leader=1 len=1 members=1.1.7.2 value=\n"
unfolding all_opens
one_node_two_groups = refl

pub several_nodes_garbage : transcript (codes "") (codes "mode fixed\nnode 1\nbegin\ngarbage 1 5247\n") ≡ codes "up 1 1\nin 1 1.1.1 1.1\n"
unfolding all_opens
several_nodes_garbage = refl

pub several_nodes_leave_and_message : transcript (codes "") (codes "mode fixed\nnode 1\nnode 2\nbegin\nclient 1 a A\nclient 2 b A\njoin a db 1\nflow\njoin b db 1\nflow\nmessage b db 1 hi%20there\nmessage a db 1 ~\nflow\nleave a db 1\nflow\nshow 1 hagsgr\nshow 2 hagsgr\n") ≡ codes "up 1 1\nin 1 1.1.1 1.1,2.1\nup 2 1\nin 2 1.1.1 1.1,2.1\nasked 1.1.1.1 1 db join\nput 1 1.1.1 db 0 once join 1.1.1.1\nheard 1.1.1.1 1.1.1 db 0 once-join 1.1.1.1 =\nput 2 1.1.1 db 0 once join 1.1.1.1\nasked 2.1.1.1 1 db join\nput 1 1.1.1 db 1 once join 2.1.1.1\nheard 1.1.1.1 1.1.1 db 1 once-join 1.1.1.1,2.1.1.1 =\nput 2 1.1.1 db 1 once join 2.1.1.1\nheard 2.1.1.1 1.1.1 db 1 once-join 1.1.1.1,2.1.1.1 =\nasked 2.1.1.1 2 db message\nasked 1.1.1.1 2 db message\nput 1 1.1.1 db 2 once message 2.1.1.1/2 =hi%20there\nheard 1.1.1.1 1.1.1 db 2 once-message 1.1.1.1,2.1.1.1 =\nput 1 1.1.1 db 3 once message 1.1.1.1/2 =\nheard 1.1.1.1 1.1.1 db 3 once-message 1.1.1.1,2.1.1.1 =\nput 2 1.1.1 db 2 once message 2.1.1.1/2 =hi%20there\nheard 2.1.1.1 1.1.1 db 2 once-message 1.1.1.1,2.1.1.1 =\nput 2 1.1.1 db 3 once message 1.1.1.1/2 =\nheard 2.1.1.1 1.1.1 db 3 once-message 1.1.1.1,2.1.1.1 =\nasked 1.1.1.1 3 db leave\nput 1 1.1.1 db 4 once leave 1.1.1.1/3\nheard 1.1.1.1 1.1.1 db 4 once-leave 2.1.1.1 =\nput 2 1.1.1 db 4 once leave 1.1.1.1/3\nheard 2.1.1.1 1.1.1 db 4 once-leave 2.1.1.1 =\nshow 1 hagsgr db leader=1 len=5 members=2.1.1.1 value=\nshow 2 hagsgr db leader=1 len=5 members=2.1.1.1 value=\n"
unfolding all_opens
several_nodes_leave_and_message = refl

pub several_nodes_repeats_and_reorder : transcript (codes "") (codes "mode fixed\nnode 1\nnode 2\nbegin\nclient 1 a A\njoin a db 1\ndeliver 1 1 1\nmessage a db 1 x\ndeliver 1 1 2\ndeliver 1 2 2\ndeliver 1 2 1\ndeliver 1 2 2\ndeliver 1 2 1\ndeliver 1 2 2\n") ≡ codes "up 1 1\nin 1 1.1.1 1.1,2.1\nup 2 1\nin 2 1.1.1 1.1,2.1\nasked 1.1.1.1 1 db join\nput 1 1.1.1 db 0 once join 1.1.1.1\nheard 1.1.1.1 1.1.1 db 0 once-join 1.1.1.1 =\nasked 1.1.1.1 2 db message\nput 1 1.1.1 db 1 once message 1.1.1.1/2 =x\nheard 1.1.1.1 1.1.1 db 1 once-message 1.1.1.1 =\nput 2 1.1.1 db 0 once join 1.1.1.1\nput 2 1.1.1 db 1 once message 1.1.1.1/2 =x\n"
unfolding all_opens
several_nodes_repeats_and_reorder = refl
