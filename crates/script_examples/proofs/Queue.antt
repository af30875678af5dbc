-- What waits and what is refused: whole transcripts.
use Rattle.std.specs.Prelude.{◌≡◌, codes}
use Rattle.std.proofs.Common.{refl}
use Rattle.world_model.specs.Play.{transcript}
use Rattle.script_examples.specs.Opens.{all_opens}

pub attributes : transcript (codes "") (codes "mode fixed\nnode 1\nbegin\nclient 1 a A\njoin a db 1\nflow\nattrs a db 1 limit=5\nflow\n") ≡ codes "up 1 1\nin 1 1.1.1 1.1\nasked 1.1.1.1 1 db join\nput 1 1.1.1 db 0 once join 1.1.1.1\nheard 1.1.1.1 1.1.1 db 0 once-join 1.1.1.1 =\nasked 1.1.1.1 2 db attrs\nput 1 1.1.1 db 1 once attrs 1.1.1.1/2 limit=5\nheard 1.1.1.1 1.1.1 db 1 once-attrs 1.1.1.1 =\n"
unfolding all_opens
attributes = refl

pub batched_joins : transcript (codes "") (codes "mode fixed\nnode 1\nbegin\nclient 1 a -\nclient 1 b A\nclient 1 c A\nclient 1 d A\njoin a db 1 batch=joins\nflow\nstate a db n red\nflow\njoin b db 2 batch=joins\njoin c db 3 batch=joins\njoin d db 4 batch=joins\nflow\nvote a db A\nflow\n") ≡ codes "up 1 1\nin 1 1.1.1 1.1\nasked 1.1.1.1 1 db join\nput 1 1.1.1 db 0 once join 1.1.1.1 batch=joins\nheard 1.1.1.1 1.1.1 db 0 once-join 1.1.1.1 =\nasked 1.1.1.1 2 db state\nput 1 1.1.1 db 1 begin state 1.1.1.1/2 =red\nheard 1.1.1.1 1.1.1 db 1 begin-state 1.1.1.1 =\nasked 1.1.2.3 3 db join\nasked 1.1.3.4 4 db join\nasked 1.1.4.5 5 db join\ncast 1.1.1.1 1.1.1/1 1 A\nput 1 1.1.1 db 2 approve 1.1.1/1 1 1.1.1.1=A -\nheard 1.1.1.1 1.1.1 db 2 approve 1.1.1.1 =red\nput 1 1.1.1 db 3 once join 1.1.2.3,1.1.3.4,1.1.4.5 batch=joins\nheard 1.1.1.1 1.1.1 db 3 once-join 1.1.1.1,1.1.2.3,1.1.3.4,1.1.4.5 =red\nheard 1.1.2.3 1.1.1 db 3 once-join 1.1.1.1,1.1.2.3,1.1.3.4,1.1.4.5 =red\nheard 1.1.3.4 1.1.1 db 3 once-join 1.1.1.1,1.1.2.3,1.1.3.4,1.1.4.5 =red\nheard 1.1.4.5 1.1.1 db 3 once-join 1.1.1.1,1.1.2.3,1.1.3.4,1.1.4.5 =red\n"
unfolding all_opens
batched_joins = refl

pub collide : transcript (codes "") (codes "mode fixed\nnode 1\nbegin\nclient 1 a -\nclient 1 b -\njoin a db 1\njoin b db 2\nflow\nstate a db n red\nflow\nmessage b db 1 hi\nflow\nvote a db A\nvote b db A\nflow\ndeliver 1 1 4\nflow\n") ≡ codes "up 1 1\nin 1 1.1.1 1.1\nasked 1.1.1.1 1 db join\nasked 1.1.2.2 2 db join\nput 1 1.1.1 db 0 once join 1.1.1.1\nheard 1.1.1.1 1.1.1 db 0 once-join 1.1.1.1 =\nput 1 1.1.1 db 1 once join 1.1.2.2\nheard 1.1.1.1 1.1.1 db 1 once-join 1.1.1.1,1.1.2.2 =\nheard 1.1.2.2 1.1.1 db 1 once-join 1.1.1.1,1.1.2.2 =\nasked 1.1.1.1 3 db state\nput 1 1.1.1 db 2 begin state 1.1.1.1/3 =red\nheard 1.1.1.1 1.1.1 db 2 begin-state 1.1.1.1,1.1.2.2 =\nheard 1.1.2.2 1.1.1 db 2 begin-state 1.1.1.1,1.1.2.2 =\nasked 1.1.2.2 4 db message\ntold 1.1.2.2 4 COLLIDE 1.1.1/2\ncast 1.1.1.1 1.1.1/2 1 A\ncast 1.1.2.2 1.1.1/2 1 A\nput 1 1.1.1 db 3 approve 1.1.1/2 1 1.1.1.1=A,1.1.2.2=A -\nheard 1.1.1.1 1.1.1 db 3 approve 1.1.1.1,1.1.2.2 =red\nheard 1.1.2.2 1.1.1 db 3 approve 1.1.1.1,1.1.2.2 =red\n"
unfolding all_opens
collide = refl

pub goodbye : transcript (codes "") (codes "mode fixed\nnode 1\nbegin\nclient 1 a A\nclient 1 b A\njoin a db 1\njoin b db 2\nflow\ngoodbye a\nflow\ngoodbye a\ngoodbye b\ngoodbye b\n") ≡ codes "up 1 1\nin 1 1.1.1 1.1\nasked 1.1.1.1 1 db join\nasked 1.1.2.2 2 db join\nput 1 1.1.1 db 0 once join 1.1.1.1\nheard 1.1.1.1 1.1.1 db 0 once-join 1.1.1.1 =\nput 1 1.1.1 db 1 once join 1.1.2.2\nheard 1.1.1.1 1.1.1 db 1 once-join 1.1.1.1,1.1.2.2 =\nheard 1.1.2.2 1.1.1 db 1 once-join 1.1.1.1,1.1.2.2 =\nput 1 1.1.1 db 2 once fail 1.1.1.1:gone\nheard 1.1.2.2 1.1.1 db 2 once-fail 1.1.2.2 =\nrefused 1.a BAD_CLIENT_TOKEN\nrefused 1.b NO_INIT\n"
unfolding all_opens
goodbye = refl

pub groups_full_fixed : transcript (codes "") (codes "mode fixed\nnode 1\nbegin\nclient 1 a A\njoin a g01 1\njoin a g02 1\njoin a g03 1\njoin a g04 1\njoin a g05 1\njoin a g06 1\njoin a g07 1\njoin a g08 1\njoin a g09 1\njoin a g10 1\njoin a g11 1\njoin a g12 1\njoin a g13 1\njoin a g14 1\njoin a g15 1\njoin a g16 1\njoin a g17 1\njoin a g18 1\njoin a g19 1\njoin a g20 1\njoin a g21 1\njoin a g22 1\njoin a g23 1\njoin a g24 1\njoin a g25 1\njoin a g26 1\njoin a g27 1\njoin a g28 1\njoin a g29 1\njoin a g30 1\njoin a g31 1\njoin a g32 1\njoin a g33 1\njoin a g34 1\njoin a g35 1\njoin a g36 1\njoin a g37 1\njoin a g38 1\njoin a g39 1\njoin a g40 1\njoin a g41 1\njoin a g42 1\njoin a g43 1\njoin a g44 1\njoin a g45 1\njoin a g46 1\njoin a g47 1\njoin a g48 1\njoin a g49 1\njoin a g50 1\njoin a g51 1\njoin a g52 1\njoin a g53 1\njoin a g54 1\njoin a g55 1\njoin a g56 1\njoin a g57 1\njoin a g58 1\njoin a g59 1\njoin a g60 1\njoin a g61 1\njoin a g62 1\njoin a g63 1\njoin a g64 1\njoin a g65 1\nflow\n") ≡ codes "up 1 1\nin 1 1.1.1 1.1\nasked 1.1.1.1 1 g01 join\nasked 1.1.1.2 2 g02 join\nasked 1.1.1.3 3 g03 join\nasked 1.1.1.4 4 g04 join\nasked 1.1.1.5 5 g05 join\nasked 1.1.1.6 6 g06 join\nasked 1.1.1.7 7 g07 join\nasked 1.1.1.8 8 g08 join\nasked 1.1.1.9 9 g09 join\nasked 1.1.1.10 10 g10 join\nasked 1.1.1.11 11 g11 join\nasked 1.1.1.12 12 g12 join\nasked 1.1.1.13 13 g13 join\nasked 1.1.1.14 14 g14 join\nasked 1.1.1.15 15 g15 join\nasked 1.1.1.16 16 g16 join\nasked 1.1.1.17 17 g17 join\nasked 1.1.1.18 18 g18 join\nasked 1.1.1.19 19 g19 join\nasked 1.1.1.20 20 g20 join\nasked 1.1.1.21 21 g21 join\nasked 1.1.1.22 22 g22 join\nasked 1.1.1.23 23 g23 join\nasked 1.1.1.24 24 g24 join\nasked 1.1.1.25 25 g25 join\nasked 1.1.1.26 26 g26 join\nasked 1.1.1.27 27 g27 join\nasked 1.1.1.28 28 g28 join\nasked 1.1.1.29 29 g29 join\nasked 1.1.1.30 30 g30 join\nasked 1.1.1.31 31 g31 join\nasked 1.1.1.32 32 g32 join\nasked 1.1.1.33 33 g33 join\nasked 1.1.1.34 34 g34 join\nasked 1.1.1.35 35 g35 join\nasked 1.1.1.36 36 g36 join\nasked 1.1.1.37 37 g37 join\nasked 1.1.1.38 38 g38 join\nasked 1.1.1.39 39 g39 join\nasked 1.1.1.40 40 g40 join\nasked 1.1.1.41 41 g41 join\nasked 1.1.1.42 42 g42 join\nasked 1.1.1.43 43 g43 join\nasked 1.1.1.44 44 g44 join\nasked 1.1.1.45 45 g45 join\nasked 1.1.1.46 46 g46 join\nasked 1.1.1.47 47 g47 join\nasked 1.1.1.48 48 g48 join\nasked 1.1.1.49 49 g49 join\nasked 1.1.1.50 50 g50 join\nasked 1.1.1.51 51 g51 join\nasked 1.1.1.52 52 g52 join\nasked 1.1.1.53 53 g53 join\nasked 1.1.1.54 54 g54 join\nasked 1.1.1.55 55 g55 join\nasked 1.1.1.56 56 g56 join\nasked 1.1.1.57 57 g57 join\nasked 1.1.1.58 58 g58 join\nasked 1.1.1.59 59 g59 join\nasked 1.1.1.60 60 g60 join\nasked 1.1.1.61 61 g61 join\nasked 1.1.1.62 62 g62 join\nasked 1.1.1.63 63 g63 join\nasked 1.1.1.64 64 g64 join\nasked 1.1.1.65 65 g65 join\nput 1 1.1.1 g01 0 once join 1.1.1.1\nheard 1.1.1.1 1.1.1 g01 0 once-join 1.1.1.1 =\nput 1 1.1.1 g02 0 once join 1.1.1.2\nheard 1.1.1.2 1.1.1 g02 0 once-join 1.1.1.2 =\nput 1 1.1.1 g03 0 once join 1.1.1.3\nheard 1.1.1.3 1.1.1 g03 0 once-join 1.1.1.3 =\nput 1 1.1.1 g04 0 once join 1.1.1.4\nheard 1.1.1.4 1.1.1 g04 0 once-join 1.1.1.4 =\nput 1 1.1.1 g05 0 once join 1.1.1.5\nheard 1.1.1.5 1.1.1 g05 0 once-join 1.1.1.5 =\nput 1 1.1.1 g06 0 once join 1.1.1.6\nheard 1.1.1.6 1.1.1 g06 0 once-join 1.1.1.6 =\nput 1 1.1.1 g07 0 once join 1.1.1.7\nheard 1.1.1.7 1.1.1 g07 0 once-join 1.1.1.7 =\nput 1 1.1.1 g08 0 once join 1.1.1.8\nheard 1.1.1.8 1.1.1 g08 0 once-join 1.1.1.8 =\nput 1 1.1.1 g09 0 once join 1.1.1.9\nheard 1.1.1.9 1.1.1 g09 0 once-join 1.1.1.9 =\nput 1 1.1.1 g10 0 once join 1.1.1.10\nheard 1.1.1.10 1.1.1 g10 0 once-join 1.1.1.10 =\nput 1 1.1.1 g11 0 once join 1.1.1.11\nheard 1.1.1.11 1.1.1 g11 0 once-join 1.1.1.11 =\nput 1 1.1.1 g12 0 once join 1.1.1.12\nheard 1.1.1.12 1.1.1 g12 0 once-join 1.1.1.12 =\nput 1 1.1.1 g13 0 once join 1.1.1.13\nheard 1.1.1.13 1.1.1 g13 0 once-join 1.1.1.13 =\nput 1 1.1.1 g14 0 once join 1.1.1.14\nheard 1.1.1.14 1.1.1 g14 0 once-join 1.1.1.14 =\nput 1 1.1.1 g15 0 once join 1.1.1.15\nheard 1.1.1.15 1.1.1 g15 0 once-join 1.1.1.15 =\nput 1 1.1.1 g16 0 once join 1.1.1.16\nheard 1.1.1.16 1.1.1 g16 0 once-join 1.1.1.16 =\nput 1 1.1.1 g17 0 once join 1.1.1.17\nheard 1.1.1.17 1.1.1 g17 0 once-join 1.1.1.17 =\nput 1 1.1.1 g18 0 once join 1.1.1.18\nheard 1.1.1.18 1.1.1 g18 0 once-join 1.1.1.18 =\nput 1 1.1.1 g19 0 once join 1.1.1.19\nheard 1.1.1.19 1.1.1 g19 0 once-join 1.1.1.19 =\nput 1 1.1.1 g20 0 once join 1.1.1.20\nheard 1.1.1.20 1.1.1 g20 0 once-join 1.1.1.20 =\nput 1 1.1.1 g21 0 once join 1.1.1.21\nheard 1.1.1.21 1.1.1 g21 0 once-join 1.1.1.21 =\nput 1 1.1.1 g22 0 once join 1.1.1.22\nheard 1.1.1.22 1.1.1 g22 0 once-join 1.1.1.22 =\nput 1 1.1.1 g23 0 once join 1.1.1.23\nheard 1.1.1.23 1.1.1 g23 0 once-join 1.1.1.23 =\nput 1 1.1.1 g24 0 once join 1.1.1.24\nheard 1.1.1.24 1.1.1 g24 0 once-join 1.1.1.24 =\nput 1 1.1.1 g25 0 once join 1.1.1.25\nheard 1.1.1.25 1.1.1 g25 0 once-join 1.1.1.25 =\nput 1 1.1.1 g26 0 once join 1.1.1.26\nheard 1.1.1.26 1.1.1 g26 0 once-join 1.1.1.26 =\nput 1 1.1.1 g27 0 once join 1.1.1.27\nheard 1.1.1.27 1.1.1 g27 0 once-join 1.1.1.27 =\nput 1 1.1.1 g28 0 once join 1.1.1.28\nheard 1.1.1.28 1.1.1 g28 0 once-join 1.1.1.28 =\nput 1 1.1.1 g29 0 once join 1.1.1.29\nheard 1.1.1.29 1.1.1 g29 0 once-join 1.1.1.29 =\nput 1 1.1.1 g30 0 once join 1.1.1.30\nheard 1.1.1.30 1.1.1 g30 0 once-join 1.1.1.30 =\nput 1 1.1.1 g31 0 once join 1.1.1.31\nheard 1.1.1.31 1.1.1 g31 0 once-join 1.1.1.31 =\nput 1 1.1.1 g32 0 once join 1.1.1.32\nheard 1.1.1.32 1.1.1 g32 0 once-join 1.1.1.32 =\nput 1 1.1.1 g33 0 once join 1.1.1.33\nheard 1.1.1.33 1.1.1 g33 0 once-join 1.1.1.33 =\nput 1 1.1.1 g34 0 once join 1.1.1.34\nheard 1.1.1.34 1.1.1 g34 0 once-join 1.1.1.34 =\nput 1 1.1.1 g35 0 once join 1.1.1.35\nheard 1.1.1.35 1.1.1 g35 0 once-join 1.1.1.35 =\nput 1 1.1.1 g36 0 once join 1.1.1.36\nheard 1.1.1.36 1.1.1 g36 0 once-join 1.1.1.36 =\nput 1 1.1.1 g37 0 once join 1.1.1.37\nheard 1.1.1.37 1.1.1 g37 0 once-join 1.1.1.37 =\nput 1 1.1.1 g38 0 once join 1.1.1.38\nheard 1.1.1.38 1.1.1 g38 0 once-join 1.1.1.38 =\nput 1 1.1.1 g39 0 once join 1.1.1.39\nheard 1.1.1.39 1.1.1 g39 0 once-join 1.1.1.39 =\nput 1 1.1.1 g40 0 once join 1.1.1.40\nheard 1.1.1.40 1.1.1 g40 0 once-join 1.1.1.40 =\nput 1 1.1.1 g41 0 once join 1.1.1.41\nheard 1.1.1.41 1.1.1 g41 0 once-join 1.1.1.41 =\nput 1 1.1.1 g42 0 once join 1.1.1.42\nheard 1.1.1.42 1.1.1 g42 0 once-join 1.1.1.42 =\nput 1 1.1.1 g43 0 once join 1.1.1.43\nheard 1.1.1.43 1.1.1 g43 0 once-join 1.1.1.43 =\nput 1 1.1.1 g44 0 once join 1.1.1.44\nheard 1.1.1.44 1.1.1 g44 0 once-join 1.1.1.44 =\nput 1 1.1.1 g45 0 once join 1.1.1.45\nheard 1.1.1.45 1.1.1 g45 0 once-join 1.1.1.45 =\nput 1 1.1.1 g46 0 once join 1.1.1.46\nheard 1.1.1.46 1.1.1 g46 0 once-join 1.1.1.46 =\nput 1 1.1.1 g47 0 once join 1.1.1.47\nheard 1.1.1.47 1.1.1 g47 0 once-join 1.1.1.47 =\nput 1 1.1.1 g48 0 once join 1.1.1.48\nheard 1.1.1.48 1.1.1 g48 0 once-join 1.1.1.48 =\nput 1 1.1.1 g49 0 once join 1.1.1.49\nheard 1.1.1.49 1.1.1 g49 0 once-join 1.1.1.49 =\nput 1 1.1.1 g50 0 once join 1.1.1.50\nheard 1.1.1.50 1.1.1 g50 0 once-join 1.1.1.50 =\nput 1 1.1.1 g51 0 once join 1.1.1.51\nheard 1.1.1.51 1.1.1 g51 0 once-join 1.1.1.51 =\nput 1 1.1.1 g52 0 once join 1.1.1.52\nheard 1.1.1.52 1.1.1 g52 0 once-join 1.1.1.52 =\nput 1 1.1.1 g53 0 once join 1.1.1.53\nheard 1.1.1.53 1.1.1 g53 0 once-join 1.1.1.53 =\nput 1 1.1.1 g54 0 once join 1.1.1.54\nheard 1.1.1.54 1.1.1 g54 0 once-join 1.1.1.54 =\nput 1 1.1.1 g55 0 once join 1.1.1.55\nheard 1.1.1.55 1.1.1 g55 0 once-join 1.1.1.55 =\nput 1 1.1.1 g56 0 once join 1.1.1.56\nheard 1.1.1.56 1.1.1 g56 0 once-join 1.1.1.56 =\nput 1 1.1.1 g57 0 once join 1.1.1.57\nheard 1.1.1.57 1.1.1 g57 0 once-join 1.1.1.57 =\nput 1 1.1.1 g58 0 once join 1.1.1.58\nheard 1.1.1.58 1.1.1 g58 0 once-join 1.1.1.58 =\nput 1 1.1.1 g59 0 once join 1.1.1.59\nheard 1.1.1.59 1.1.1 g59 0 once-join 1.1.1.59 =\nput 1 1.1.1 g60 0 once join 1.1.1.60\nheard 1.1.1.60 1.1.1 g60 0 once-join 1.1.1.60 =\nput 1 1.1.1 g61 0 once join 1.1.1.61\nheard 1.1.1.61 1.1.1 g61 0 once-join 1.1.1.61 =\nput 1 1.1.1 g62 0 once join 1.1.1.62\nheard 1.1.1.62 1.1.1 g62 0 once-join 1.1.1.62 =\nput 1 1.1.1 g63 0 once join 1.1.1.63\nheard 1.1.1.63 1.1.1 g63 0 once-join 1.1.1.63 =\nput 1 1.1.1 g64 0 once join 1.1.1.64\nheard 1.1.1.64 1.1.1 g64 0 once-join 1.1.1.64 =\ntold 1.1.1.65 65 GROUPS_FULL 64\n"
unfolding all_opens
groups_full_fixed = refl

pub joins_one_by_one : transcript (codes "") (codes "mode fixed\nnode 1\nbegin\nclient 1 a -\nclient 1 b A\nclient 1 c A\nclient 1 d A\njoin a db 1\nflow\nstate a db n red\nflow\njoin b db 2\njoin c db 3\njoin d db 4\nflow\nvote a db A\nflow\n") ≡ codes "up 1 1\nin 1 1.1.1 1.1\nasked 1.1.1.1 1 db join\nput 1 1.1.1 db 0 once join 1.1.1.1\nheard 1.1.1.1 1.1.1 db 0 once-join 1.1.1.1 =\nasked 1.1.1.1 2 db state\nput 1 1.1.1 db 1 begin state 1.1.1.1/2 =red\nheard 1.1.1.1 1.1.1 db 1 begin-state 1.1.1.1 =\nasked 1.1.2.3 3 db join\nasked 1.1.3.4 4 db join\nasked 1.1.4.5 5 db join\ncast 1.1.1.1 1.1.1/1 1 A\nput 1 1.1.1 db 2 approve 1.1.1/1 1 1.1.1.1=A -\nheard 1.1.1.1 1.1.1 db 2 approve 1.1.1.1 =red\nput 1 1.1.1 db 3 once join 1.1.2.3\nheard 1.1.1.1 1.1.1 db 3 once-join 1.1.1.1,1.1.2.3 =red\nheard 1.1.2.3 1.1.1 db 3 once-join 1.1.1.1,1.1.2.3 =red\nput 1 1.1.1 db 4 once join 1.1.3.4\nheard 1.1.1.1 1.1.1 db 4 once-join 1.1.1.1,1.1.2.3,1.1.3.4 =red\nheard 1.1.2.3 1.1.1 db 4 once-join 1.1.1.1,1.1.2.3,1.1.3.4 =red\nheard 1.1.3.4 1.1.1 db 4 once-join 1.1.1.1,1.1.2.3,1.1.3.4 =red\nput 1 1.1.1 db 5 once join 1.1.4.5\nheard 1.1.1.1 1.1.1 db 5 once-join 1.1.1.1,1.1.2.3,1.1.3.4,1.1.4.5 =red\nheard 1.1.2.3 1.1.1 db 5 once-join 1.1.1.1,1.1.2.3,1.1.3.4,1.1.4.5 =red\nheard 1.1.3.4 1.1.1 db 5 once-join 1.1.1.1,1.1.2.3,1.1.3.4,1.1.4.5 =red\nheard 1.1.4.5 1.1.1 db 5 once-join 1.1.1.1,1.1.2.3,1.1.3.4,1.1.4.5 =red\n"
unfolding all_opens
joins_one_by_one = refl

pub same_proto_in_two_groups : transcript (codes "") (codes "mode fixed\nnode 1\nbegin\nclient 1 a -\nclient 1 b -\njoin a x 1\njoin b y 1\nflow\nstate a x n 1\nstate b y n 1\nflow\nvote b y A\nvote a x A\ndeliver 1 1 6\nvote b y A\n") ≡ codes "up 1 1\nin 1 1.1.1 1.1\nasked 1.1.1.1 1 x join\nasked 1.1.1.2 2 y join\nput 1 1.1.1 x 0 once join 1.1.1.1\nheard 1.1.1.1 1.1.1 x 0 once-join 1.1.1.1 =\nput 1 1.1.1 y 0 once join 1.1.1.2\nheard 1.1.1.2 1.1.1 y 0 once-join 1.1.1.2 =\nasked 1.1.1.1 3 x state\nasked 1.1.1.2 4 y state\nput 1 1.1.1 x 1 begin state 1.1.1.1/3 =1\nheard 1.1.1.1 1.1.1 x 1 begin-state 1.1.1.1 =\nput 1 1.1.1 y 1 begin state 1.1.1.2/4 =1\nheard 1.1.1.2 1.1.1 y 1 begin-state 1.1.1.2 =\ncast 1.1.1.2 1.1.1/1 1 A\ncast 1.1.1.1 1.1.1/1 1 A\nput 1 1.1.1 x 2 approve 1.1.1/1 1 1.1.1.1=A -\nheard 1.1.1.1 1.1.1 x 2 approve 1.1.1.1 =1\nrefused 1.b VOTE_NOT_EXPECTED\n"
unfolding all_opens
same_proto_in_two_groups = refl

pub sessions_full : transcript (codes "") (codes "mode fixed\nnode 1\nbegin\nclient 1 c1 A\nclient 1 c2 A\nclient 1 c3 A\nclient 1 c4 A\nclient 1 c5 A\nclient 1 c6 A\nclient 1 c7 A\nclient 1 c8 A\nclient 1 c9 A\nclient 1 c10 A\nclient 1 c11 A\nclient 1 c12 A\nclient 1 c13 A\nclient 1 c14 A\nclient 1 c15 A\nclient 1 c16 A\nclient 1 c17 A\nclient 1 c18 A\nclient 1 c19 A\nclient 1 c20 A\nclient 1 c21 A\nclient 1 c22 A\nclient 1 c23 A\nclient 1 c24 A\nclient 1 c25 A\nclient 1 c26 A\nclient 1 c27 A\nclient 1 c28 A\nclient 1 c29 A\nclient 1 c30 A\nclient 1 c31 A\nclient 1 c32 A\nclient 1 c33 A\nclient 1 c34 A\nclient 1 c35 A\nclient 1 c36 A\nclient 1 c37 A\nclient 1 c38 A\nclient 1 c39 A\nclient 1 c40 A\nclient 1 c41 A\nclient 1 c42 A\nclient 1 c43 A\nclient 1 c44 A\nclient 1 c45 A\nclient 1 c46 A\nclient 1 c47 A\nclient 1 c48 A\nclient 1 c49 A\nclient 1 c50 A\nclient 1 c51 A\nclient 1 c52 A\nclient 1 c53 A\nclient 1 c54 A\nclient 1 c55 A\nclient 1 c56 A\nclient 1 c57 A\nclient 1 c58 A\nclient 1 c59 A\nclient 1 c60 A\nclient 1 c61 A\nclient 1 c62 A\nclient 1 c63 A\nclient 1 c64 A\nclient 1 c65 A\n") ≡ codes "up 1 1\nin 1 1.1.1 1.1\nrefused 1.c65 SESSIONS_FULL 64\n"
unfolding all_opens
sessions_full = refl

pub told : transcript (codes "") (codes "mode fixed\nnode 1\nbegin\nclient 1 a A\nclient 1 b A\njoin a db 1\njoin b db 1\nflow\njoin b db 2 limit=9\nflow\nexpel a db 1 9.1.1.1\nflow\n") ≡ codes "up 1 1\nin 1 1.1.1 1.1\nasked 1.1.1.1 1 db join\nasked 1.1.1.2 2 db join\nput 1 1.1.1 db 0 once join 1.1.1.1\nheard 1.1.1.1 1.1.1 db 0 once-join 1.1.1.1 =\ntold 1.1.1.2 2 DUPLICATE_INSTANCE_NUMBER\nasked 1.1.2.3 3 db join\ntold 1.1.2.3 3 BAD_GROUP_ATTRIBUTES\nasked 1.1.1.1 4 db expel\ntold 1.1.1.1 4 NOT_A_MEMBER\n"
unfolding all_opens
told = refl
