-- Lines that are in no script, each with its first reason, and lines that are in one.
use Rattle.std.specs.Prelude.{◌≡◌, ℕ, List, [], ◌∷◌, ◌++◌, map, codes, decimal}
use Rattle.std.proofs.Common.{refl}
use Rattle.world_model.specs.Play.{transcript}
use Rattle.script_examples.specs.Opens.{all_opens}

-- what is written of each script
abbrev faults : List (List ℕ) → List (List ℕ)
faults scripts = map (transcript []) scripts

-- the first bad line, and its reason
abbrev at : ℕ → List ℕ → List ℕ
at n why = codes "hags: line " ++ decimal n ++ codes ": " ++ why ++ codes "\n"

pub bad_byte_lines : faults ((codes "mode fixed\nnode 1\nnode 2\nbegin\nflow" ++ 1 ∷ codes "\n") ∷ (codes "# " ++ 127 ∷ codes "\n") ∷ (codes "mode fixed\nnode 1\nnode 2\nbegin\njoi" ++ 9 ∷ codes "\n") ∷ (codes "" ++ 31 ∷ codes "") ∷ []) ≡ at 5 (codes "bad byte") ∷ at 1 (codes "bad byte") ∷ at 5 (codes "bad byte") ∷ at 1 (codes "bad byte") ∷ []
unfolding all_opens
bad_byte_lines = refl

pub unknown_word_lines : faults (codes "mode fixed\nnode 1\nnode 2\nbegin\njoi a db 1\n" ∷ codes "mode fixed\nnode 1\nnode 2\nbegin\n # x\n" ∷ codes "mode fixed\nnode 1\nnode 2\nbegin\nFlow\n" ∷ codes "nod" ∷ codes "mode fixed\nnode 1\nnode 2\nbegin\nbeginn\n" ∷ []) ≡ at 5 (codes "unknown word") ∷ at 5 (codes "unknown word") ∷ at 5 (codes "unknown word") ∷ at 1 (codes "unknown word") ∷ at 5 (codes "unknown word") ∷ []
unfolding all_opens
unknown_word_lines = refl

pub missing_word_lines : faults (codes "mode fixed\nnode 1\nnode 2\nbegin\njoin a db\n" ∷ codes "mode fixed\nnode 1\nnode 2\nbegin\nflow" ∷ codes "# x" ∷ codes "mode fixed\nnode 1\nnode 2\nbegin\n " ∷ codes "mode fixed\nnode 1\nnode 2\nbegin\nask 1\n" ∷ codes "mode fixed\nnode 1\nnode 2\nbegin\nexpel a db 1\n" ∷ codes "mode\n" ∷ codes "mode fixed\nnode 1\nnode 2\nbegin\ndeliver 1 2\n" ∷ codes "mode fixed\nnode 1\nnode 2\nbegin\nattrs a db\n" ∷ codes "mode fixed\nnode 1\nnode 2\nbegin\nclient 1 a\n" ∷ codes "mode fixed\nnode 1\nnode 2\nbegin\ngoodbye\n" ∷ []) ≡ at 5 (codes "missing word") ∷ at 5 (codes "missing word") ∷ at 1 (codes "missing word") ∷ at 5 (codes "missing word") ∷ at 5 (codes "missing word") ∷ at 5 (codes "missing word") ∷ at 1 (codes "missing word") ∷ at 5 (codes "missing word") ∷ at 5 (codes "missing word") ∷ at 5 (codes "missing word") ∷ at 5 (codes "missing word") ∷ []
unfolding all_opens
missing_word_lines = refl

pub extra_word_lines : faults (codes "mode fixed\nnode 1\nnode 2\nbegin\nflow 1\n" ∷ codes "mode fixed\nnode 1\nnode 2\nbegin\nbegin 1\n" ∷ codes "mode fixed\nnode 1\nnode 2\nbegin\nclient 1 a A B\n" ∷ codes "mode fixed\nnode 1\nnode 2\nbegin\ncut 1 2 1 1\n" ∷ codes "mode fixed\nnode 1\nnode 2\nbegin\nstate a db n x y\n" ∷ codes "mode fixed\nnode 1\nnode 2\nbegin\nleave a db n n\n" ∷ codes "node 1 2\n" ∷ []) ≡ at 5 (codes "extra word") ∷ at 5 (codes "extra word") ∷ at 5 (codes "extra word") ∷ at 5 (codes "extra word") ∷ at 5 (codes "extra word") ∷ at 5 (codes "extra word") ∷ at 1 (codes "extra word") ∷ []
unfolding all_opens
extra_word_lines = refl

pub bad_word_lines : faults (codes "mode foo\n" ∷ codes "node 0\n" ∷ codes "node 33\n" ∷ codes "node 01\n" ∷ codes "node +1\n" ∷ codes "adapter 1 5 10.1.0.1\n" ∷ codes "adapter 1 1 0.0.0.0\n" ∷ codes "adapter 1 1 10.1.0.256\n" ∷ codes "adapter 1 1 10.1.0\n" ∷ codes "hb 0 4\n" ∷ codes "hb 1 1\n" ∷ codes "hb 101 4\n" ∷ codes "port 0\n" ∷ codes "port 65001\n" ∷ codes "level 1 0\n" ∷ codes "level 1 4294967296\n" ∷ codes "domain 0\n" ∷ codes "mode fixed\nnode 1\nnode 2\nbegin\nrun 0\n" ∷ codes "mode fixed\nnode 1\nnode 2\nbegin\nrun 10001\n" ∷ codes "mode fixed\nnode 1\nnode 2\nbegin\ndeliver 1 2 4294967296\n" ∷ codes "mode fixed\nnode 1\nnode 2\nbegin\ncut 1 2 5\n" ∷ codes "mode fixed\nnode 1\nnode 2\nbegin\ngarbage 1 5\n" ∷ codes "mode fixed\nnode 1\nnode 2\nbegin\ngarbage 1 5g\n" ∷ codes "mode fixed\nnode 1\nnode 2\nbegin\nshow 1 foo\n" ∷ codes "mode fixed\nnode 1\nnode 2\nbegin\nclient 1 aaaaaaaaaaaaaaaaa A\n" ∷ codes "mode fixed\nnode 1\nnode 2\nbegin\nclient 1 a/b A\n" ∷ codes "mode fixed\nnode 1\nnode 2\nbegin\nclient 1 a X\n" ∷ codes "mode fixed\nnode 1\nnode 2\nbegin\nclient 1 a A,\n" ∷ codes "mode fixed\nnode 1\nnode 2\nbegin\nclient 1 a A=\n" ∷ codes "mode fixed\nnode 1\nnode 2\nbegin\nclient 1 a A=%4\n" ∷ codes "mode fixed\nnode 1\nnode 2\nbegin\nclient 1 a boxed,A\n" ∷ codes "mode fixed\nnode 1\nnode 2\nbegin\nclient 1 a A\njoin a db 65536\n" ∷ codes "mode fixed\nnode 1\nnode 2\nbegin\nclient 1 a A\njoin a db 1 foo=1\n" ∷ codes "mode fixed\nnode 1\nnode 2\nbegin\nclient 1 a A\njoin a db 1 limit=65536\n" ∷ codes "mode fixed\nnode 1\nnode 2\nbegin\nclient 1 a A\njoin a db 1 limit=1 limit=1\n" ∷ codes "mode fixed\nnode 1\nnode 2\nbegin\nclient 1 a A\njoin a db 1 phases=2\n" ∷ codes "mode fixed\nnode 1\nnode 2\nbegin\nclient 1 a A\njoin a db 1 source=\n" ∷ codes "mode fixed\nnode 1\nnode 2\nbegin\nclient 1 a A\njoin a db 1 source=ggggggggggggggggggggggggggggggggg\n" ∷ codes "mode fixed\nnode 1\nnode 2\nbegin\nclient 1 a A\njoin a ggggggggggggggggggggggggggggggggggggggggggggggggggggggggggggggggg 1\n" ∷ codes "mode fixed\nnode 1\nnode 2\nbegin\nclient 1 a A\nleave a db 2\n" ∷ codes "mode fixed\nnode 1\nnode 2\nbegin\nclient 1 a A\nexpel a db 1 1.1.1\n" ∷ codes "mode fixed\nnode 1\nnode 2\nbegin\nclient 1 a A\nexpel a db 1 33.1.1.1\n" ∷ codes "mode fixed\nnode 1\nnode 2\nbegin\nclient 1 a A\nstate a db n x%\n" ∷ codes "mode fixed\nnode 1\nnode 2\nbegin\nclient 1 a A\nstate a db n %zz\n" ∷ codes "mode fixed\nnode 1\nnode 2\nbegin\nclient 1 a A\nvote a db X\n" ∷ codes "mode fixed\nnode 1\nnode 2\nbegin\nclient 1 a A\nvote a db A=\n" ∷ codes "mode fixed\nnode 1\nnode 2\nbegin\nclient 1 a A\nvote a db -\n" ∷ []) ≡ at 1 (codes "bad word") ∷ at 1 (codes "bad word") ∷ at 1 (codes "bad word") ∷ at 1 (codes "bad word") ∷ at 1 (codes "bad word") ∷ at 1 (codes "bad word") ∷ at 1 (codes "bad word") ∷ at 1 (codes "bad word") ∷ at 1 (codes "bad word") ∷ at 1 (codes "bad word") ∷ at 1 (codes "bad word") ∷ at 1 (codes "bad word") ∷ at 1 (codes "bad word") ∷ at 1 (codes "bad word") ∷ at 1 (codes "bad word") ∷ at 1 (codes "bad word") ∷ at 1 (codes "bad word") ∷ at 5 (codes "bad word") ∷ at 5 (codes "bad word") ∷ at 5 (codes "bad word") ∷ at 5 (codes "bad word") ∷ at 5 (codes "bad word") ∷ at 5 (codes "bad word") ∷ at 5 (codes "bad word") ∷ at 5 (codes "bad word") ∷ at 5 (codes "bad word") ∷ at 5 (codes "bad word") ∷ at 5 (codes "bad word") ∷ at 5 (codes "bad word") ∷ at 5 (codes "bad word") ∷ at 5 (codes "bad word") ∷ at 6 (codes "bad word") ∷ at 6 (codes "bad word") ∷ at 6 (codes "bad word") ∷ at 6 (codes "bad word") ∷ at 6 (codes "bad word") ∷ at 6 (codes "bad word") ∷ at 6 (codes "bad word") ∷ at 6 (codes "bad word") ∷ at 6 (codes "bad word") ∷ at 6 (codes "bad word") ∷ at 6 (codes "bad word") ∷ at 6 (codes "bad word") ∷ at 6 (codes "bad word") ∷ at 6 (codes "bad word") ∷ at 6 (codes "bad word") ∷ at 6 (codes "bad word") ∷ []
unfolding all_opens
bad_word_lines = refl

pub unknown_node_lines : faults (codes "adapter 1 1 10.1.0.1\n" ∷ codes "level 1 1\n" ∷ codes "mode fixed\nnode 1\nnode 2\nbegin\ntick 3\n" ∷ codes "mode asked\nnode 1\nnode 2\nbegin\nask 1 1 3\n" ∷ codes "mode fixed\nnode 1\nnode 2\nbegin\nclient 3 a A\n" ∷ codes "mode fixed\nnode 1\nnode 2\nbegin\ndeliver 1 3 1\n" ∷ codes "start 1\n" ∷ []) ≡ at 1 (codes "unknown node") ∷ at 1 (codes "unknown node") ∷ at 5 (codes "unknown node") ∷ at 5 (codes "unknown node") ∷ at 5 (codes "unknown node") ∷ at 5 (codes "unknown node") ∷ at 1 (codes "unknown node") ∷ []
unfolding all_opens
unknown_node_lines = refl

pub unknown_client_lines : faults (codes "mode fixed\nnode 1\nnode 2\nbegin\njoin a db 1\n" ∷ codes "goodbye a\n" ∷ codes "mode fixed\nnode 1\nnode 2\nbegin\nclient 1 a A\nvote b db A\n" ∷ []) ≡ at 5 (codes "unknown client") ∷ at 1 (codes "unknown client") ∷ at 6 (codes "unknown client") ∷ []
unfolding all_opens
unknown_client_lines = refl

pub out_of_place_lines : faults (codes "mode fixed\nnode 1\nnode 2\nbegin\nnode 3\n" ∷ codes "mode fixed\nnode 1\nnode 2\nbegin\nbegin\n" ∷ codes "mode fixed\nmode fixed\n" ∷ codes "node 1\nnode 1\n" ∷ codes "node 1\nadapter 1 1 10.1.0.1\nadapter 1 1 10.1.0.2\n" ∷ codes "node 1\nnode 2\nadapter 1 1 10.1.0.1\nadapter 2 1 10.1.0.1\n" ∷ codes "hb 1 4\nhb 1 4\n" ∷ codes "port 1\nport 1\n" ∷ codes "node 1\nlevel 1 1\nlevel 1 2\n" ∷ codes "domain 1\ndomain 1\n" ∷ codes "node 1\ntick 1\n" ∷ codes "flow\n" ∷ codes "node 1\nclient 1 a A\n" ∷ codes "mode fixed\nnode 1\nnode 2\nbegin\nstart 1\n" ∷ codes "mode fixed\nnode 1\nnode 2\nbegin\nstop 1\n" ∷ codes "mode fixed\nnode 1\nnode 2\nbegin\nask 1 1\n" ∷ codes "node 1\nnode 2\nbegin\nask 1 1\n" ∷ codes "mode asked\nnode 1\nnode 2\nbegin\nask 1 2\n" ∷ codes "mode fixed\nnode 1\nnode 2\nbegin\nclient 1 a A\nclient 2 a A\n" ∷ codes "mode fixed\nnode 1\nnode 2\nbegin\nclient 1 a A\nport 1\n" ∷ []) ≡ at 5 (codes "out of place") ∷ at 5 (codes "out of place") ∷ at 2 (codes "out of place") ∷ at 2 (codes "out of place") ∷ at 3 (codes "out of place") ∷ at 4 (codes "out of place") ∷ at 2 (codes "out of place") ∷ at 2 (codes "out of place") ∷ at 3 (codes "out of place") ∷ at 2 (codes "out of place") ∷ at 2 (codes "out of place") ∷ at 1 (codes "out of place") ∷ at 2 (codes "out of place") ∷ at 5 (codes "out of place") ∷ at 5 (codes "out of place") ∷ at 5 (codes "out of place") ∷ at 4 (codes "out of place") ∷ at 5 (codes "out of place") ∷ at 6 (codes "out of place") ∷ at 6 (codes "out of place") ∷ []
unfolding all_opens
out_of_place_lines = refl

pub no_shared_network_lines : faults (codes "node 1\nnode 2\nadapter 1 1 10.1.0.1\nbegin\n" ∷ codes "node 1\nnode 2\nadapter 1 1 10.1.0.1\nadapter 2 2 10.1.0.1\nbegin\n" ∷ codes "node 1\nnode 2\nnode 3\nadapter 1 1 10.1.0.1\nadapter 2 1 10.1.0.2\nadapter 2 2 10.2.0.2\nadapter 3 2 10.2.0.3\nbegin\n" ∷ []) ≡ at 4 (codes "no shared network") ∷ at 5 (codes "no shared network") ∷ at 8 (codes "no shared network") ∷ []
unfolding all_opens
no_shared_network_lines = refl

pub is_a_packet_lines : faults (codes "mode fixed\nnode 1\nnode 2\nbegin\ngarbage 1 52470101010201000000000100000009000000030300000001\n" ∷ codes "mode fixed\nnode 1\nnode 2\nbegin\ngarbage 1 5247010d01010100000000010000000900000001010000000f\n" ∷ []) ≡ at 5 (codes "is a packet") ∷ at 5 (codes "is a packet") ∷ []
unfolding all_opens
is_a_packet_lines = refl

pub boxed_client_lines : faults (codes "mode fixed\nnode 1\nnode 2\nbegin\nclient 1 a boxed\n" ∷ []) ≡ at 5 (codes "boxed client") ∷ []
unfolding all_opens
boxed_client_lines = refl
