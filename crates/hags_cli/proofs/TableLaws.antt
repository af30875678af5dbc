-- From what each part of a play with tables says to what the command says.
use Rattle.std.proofs.Common.{◌≡◌, ℕ, ◌≤◌, Bool, true, false, List, [], ◌∷◌, ◌++◌, length, Option, Some, None, IfSome, IfOk, IsErr, IsErrAnd, refl, sym, ap, subst, ◌∙◌, inl, inr, append-nil}
use Rattle.std.specs.Prelude.{Result, Ok, Err, find, map}
use Rattle.std.specs.Io.KnownBytes.{Appends, Keeps, IsAtEnd}
use Rattle.std.proofs.KnownBytes.{Keeps-refl, Keeps-trans, Appends-nil, Appends-trans}
use Rattle.hags_io.specs.Edges.{GrowsByFront, Rose}
use Rattle.rsct_packet.specs.declared.ids.ViewId.{ViewId}
use Rattle.rsct_packet.specs.Search.{Has}
use Rattle.session_clients.specs.Clients.{StandFor}
use Rattle.node_state.specs.declared.happened.Happened.{Happened}
use Rattle.node_state.specs.Handed.{Logged}
use Rattle.entry_delivery.specs.Received.{handed_by}
use Rattle.node_core.specs.Node.{NodeView}
use Rattle.world_model.specs.declared.script.Script.{Script}
use Rattle.world_model.specs.Reading.{IsScript, input_limit, script_of}
use Rattle.world_model.specs.Kept.{most_kept}
use Rattle.world_model.specs.World.{world_new}
use Rattle.world_laws.specs.world_answers.Answers.{events_in, answered_after}
use Rattle.world_laws.specs.world_answers.Plays.{AnsweredPlay}
use Rattle.world_laws.specs.world_answers.Limits.{answered_in}
use Rattle.run_hands.specs.Hands.{ClientLogs, Logs, LogsStand}
use Rattle.transcript.specs.declared.kinds.Kinds.{Kinds}
use Rattle.transcript.specs.Kinds.{kinds_text, no_kinds}
use Rattle.transcript.proofs.KindLaws.{no_lines}
use Rattle.net_script.specs.declared.world.World.{World}
use Rattle.net_script.specs.Safe.{AllMayHappen}
use Rattle.net_script.specs.Standing.{Stands}
use Rattle.net_script.specs.Ends.{ClientsStand, PlayedAs, records_in, records_within}
use Rattle.net_script.specs.PlaySafe.{MayPlay}
use Rattle.net_script.proofs.PlaySafeLaws.{scripts_may_play}
use Rattle.net_script.proofs.SafePlays.{play_may}
use Rattle.play_state.specs.declared.play_fault.PlayFault.{PlayFault}
use Rattle.play_state.specs.declared.play_fault.PlayFault.TheVariants as play_fault
use Rattle.agreed_table.specs.Pairs.{Pairs}
use Rattle.table_client.specs.Rules.{Copied, is_copy, copies_after, ByRules}
use Rattle.table_client.proofs.ApartLaws.{copies_are_distinct}
use Rattle.table_laws.specs.Maps.{MapIs}
use Rattle.table_laws.proofs.RunMaps.{maps_are_one}
use Rattle.table_laws.proofs.Agreeing.{tables_agree, first_joiners_are_whole}
use Rattle.link_use.specs.declared.stop.Stop.TheVariants as stop
use Rattle.script_reader.specs.Reading.{FailsScript}
use Rattle.script_reader.specs.declared.faults.ScriptFault.{ScriptFault}
use Rattle.script_reader.specs.declared.faults.ScriptFault.TheVariants as script_fault
use Rattle.hags_cli.specs.declared.ending.Ending.{Ending}
use Rattle.hags_cli.specs.declared.ending.Ending.TheVariants as ending
use Rattle.hags_cli.specs.declared.input.InputFault.{InputFault}
use Rattle.hags_cli.specs.declared.input.InputFault.TheVariants as input_fault
use Rattle.hags_cli.specs.Endings.{ending_of_input, ending_of_script, ending_of_play}
use Rattle.hags_cli.specs.Run.{ReadsAs, InputFails}
use Rattle.hags_cli.specs.Tables.{tables_text, WorldAgrees, WholeAreEqual, TablesPlayed, TablesEnd, PlaysTables, TablesPast, MayHaveTables, TablesEnds}
use Rattle.hags_cli.specs.Tasks.{TellEnds}
use Rattle.hags_cli.proofs.EndLaws.{ended_by}
use Rattle.hags_cli.proofs.RunLaws.{reads_script, has_bad_line, at_end}

-- ---- a play that shows no records writes nothing

appends_none : (a b : Option (List ℕ)) → Appends a b [] → Keeps a b
appends_none None b h = tt
appends_none (Some xs) None h = absurd h
appends_none (Some xs) (Some ys) h = h ∙ append-nil xs

empty_front : (front back : List ℕ) → front ++ back ≡ [] → front ≡ []
empty_front [] back e = refl
empty_front (x ∷ xs) back e = absurd (cc)

grows_none : (a b : Option (List ℕ)) → GrowsByFront a b [] → Keeps a b
grows_none a b g = appends_none a b (subst (Appends a b) (empty_front g.front g.back g.whole) g.grows)

no_text : (k : Kinds) → k ≡ no_kinds → (rs : List Happened) → kinds_text k rs ≡ []
no_text k e rs = ap (λ (j : Kinds). kinds_text j rs) e ∙ no_lines rs

-- ---- the copies of its clients

-- each of the clients stands for what a log of these tells
of_logs : (all : List (List Copied)) (logs : List (List Logged)) → StandFor ByRules all (map handed_by logs) → (copies : List Copied) → Has copies all → (log : List Logged) × Has log logs × ByRules copies (handed_by log)
of_logs [] logs stand copies has = absurd has
of_logs (x ∷ all) [] stand copies has = absurd stand
of_logs (x ∷ all) (log ∷ logs) stand copies (inl same) = (log, inl refl, subst (λ (y : List Copied). ByRules y (handed_by log)) (sym same) stand.0)
of_logs (x ∷ all) (log ∷ logs) stand copies (inr has) = let found = of_logs all logs stand.1 copies has in (found.0, inr found.1, found.2)

of_nodes : (ns : List (NodeView (List Copied))) (logs : Logs) → LogsStand ByRules ns logs → (n : NodeView (List Copied)) → Has n ns → (copies : List Copied) → Has copies n.clients
    → (x : ClientLogs) × Has x logs × (log : List Logged) × Has log x.logs × ByRules copies (handed_by log)
of_nodes [] logs stand n up copies has = absurd up
of_nodes (m ∷ ns) [] stand n up copies has = absurd stand
of_nodes (m ∷ ns) (x ∷ logs) stand n (inl same) copies has =
    let found = of_logs m.clients x.logs stand.1.stand copies (subst (λ (y : NodeView (List Copied)). Has copies y.clients) same has) in
    (x, inl refl, found.0, found.1, found.2)
of_nodes (m ∷ ns) (x ∷ logs) stand n (inr up) copies has = let found = of_nodes ns logs stand.2 n up copies has in (found.0, inr found.1, found.2, found.3, found.4)

module _ (s : Script) (w : World (List Copied)) (play : AnsweredPlay) (may : AllMayHappen s.config (events_in (answered_in play))) where
  all_agree : ClientsStand ByRules (Ok w) s.config play → WorldAgrees (answered_after s.config (answered_in play)).trace w
  all_agree (logs, hands, stand) c (n, up, copies, kept, has) =
      let told = of_nodes w.nodes logs stand n up copies kept in
      let found : find (is_copy c.provider) (copies_after (handed_by told.2)) ≡ Some c = copies_are_distinct (handed_by told.2) c (subst (Has c) told.4.copies has) in
      tables_agree s.config (answered_in play) (answered_in play) [] logs may (sym (append-nil (answered_in play))) hands c.provider c (told.0, told.1, told.2, told.3, found)

  all_equal : WorldAgrees (answered_after s.config (answered_in play)).trace w → WholeAreEqual w
  all_equal agree a b m k of_a of_b groups views lens whole_a whole_b =
      let rs = (answered_after s.config (answered_in play)).trace in
      let of_m : MapIs rs a.group a.view a.len m = subst (λ (o : Option Pairs). IfSome o (MapIs rs a.group a.view a.len)) whole_a (agree a of_a) in
      let of_k : MapIs rs b.group b.view b.len k = subst (λ (o : Option Pairs). IfSome o (MapIs rs b.group b.view b.len)) whole_b (agree b of_b) in
      maps_are_one s.config (answered_in play) may a.group a.view a.len m k of_m (subst (λ (x : List ℕ × ViewId × ℕ). MapIs rs x.0 x.1 x.2 k) (λ z. (sym groups z, sym views z, sym lens z)) of_k)

-- what the play says of its end
abbrev pub PlayedTables : Result (World (List Copied)) PlayFault → Kinds → Script → Option (List ℕ) → Option (List ℕ) → Type 0
PlayedTables r k s old new = PlayedAs (λ c. None) (λ items. None) ByRules r k most_kept s old new

abbrev pub PlayedNothing : Result (World (List Copied)) PlayFault → Script → Option (List ℕ) → Option (List ℕ) → Type 0
PlayedNothing r s old new = (new ≡ old) × IfOk r (λ w. Stands (λ c. None) (λ items. None) w (world_new s.config))

module _ (k : Kinds) (none : k ≡ no_kinds) (s : Script) (old new : Option (List ℕ)) where
  tables_played : (w : World (List Copied)) → MayPlay s → PlayedTables (Ok w) k s old new → TablesPlayed s w
  tables_played w may p =
      let happens : AllMayHappen s.config (events_in (answered_in p.play)) = play_may (λ items. None) s p.play p.lines may in
      let agree : WorldAgrees (answered_after s.config (answered_in p.play)).trace w = all_agree s w p.play happens p.hands in
      record { play = p.play; lines = p.lines; within = p.ends.0; stands = p.ends.3; hands = p.hands; safe = p.safe may; agree = agree; equal = all_equal s w p.play happens agree; firsts = first_joiners_are_whole s.config (answered_in p.play) p.hands.0 happens p.hands.1 }

  tables_ended : (w : World (List Copied)) → MayPlay s → (s.begun ≡ true → PlayedTables (Ok w) k s old new) → (s.begun ≡ false → PlayedNothing (Ok w) s old new) → TablesEnd s w
  tables_ended w may played nothing = (λ e. tables_played w may (played e), λ e. (nothing e).1)

  quiet : (w : World (List Copied)) → (s.begun ≡ true → PlayedTables (Ok w) k s old new) → (s.begun ≡ false → PlayedNothing (Ok w) s old new) → Appends old new []
  quiet w played nothing = by s.begun refl
    where
      by : (b : Bool) → s.begun ≡ b → Appends old new []
      by true e = let p = played e in subst (Appends old new) (no_text k none (records_in p.play)) p.ends.2
      by false e = subst (λ (z : Option (List ℕ)). Appends old z []) (sym (nothing e).0) (Appends-nil old)

  quiet_fault : (f : PlayFault) → (s.begun ≡ true → PlayedTables (Err f) k s old new) → (s.begun ≡ false → PlayedNothing (Err f) s old new) → Keeps old new
  quiet_fault f played nothing = by s.begun refl
    where
      stopped : (f : PlayFault) → PlayedTables (Err f) k s old new → Keeps old new
      stopped (play_fault.Kept n) p = appends_none old new (subst (Appends old new) (no_text k none (records_within most_kept s.config p.play)) p.ends.1)
      stopped play_fault.WriteFault p = grows_none old new (subst (GrowsByFront old new) (no_text k none (records_within most_kept s.config p.play)) p.ends)
      stopped play_fault.NoMemory p = grows_none old new (subst (GrowsByFront old new) (no_text k none (records_within most_kept s.config p.play)) p.ends)

      by : (b : Bool) → s.begun ≡ b → Keeps old new
      by true e = stopped f (played e)
      by false e = subst (Keeps old) (sym (nothing e).0) (Keeps-refl old)

-- ---- how the command ends

nothing_written : (g : List ℕ) (left old new : Option (List ℕ)) → Keeps old new → IfSome left (MayHaveTables g old new)
nothing_written g None old new h = tt
nothing_written g (Some b) old new h = inl h

pub input_ends : (g : List ℕ) (left rest held : Option (List ℕ)) (reads reads_now : ℕ) (wrote still : Type 0) (same : still) (f : InputFault) (e : Ending) → e ≡ ending_of_input f → InputFails reads reads_now f
    → TablesEnds (Err e) g left rest (Rose reads reads_now) wrote still held held
input_ends g left rest held reads reads_now wrote still same f e is h = subst (λ (z : Ending). TablesEnds (Err z) g left rest (Rose reads reads_now) wrote still held held) (sym is) (by f h)
  where
    by : (f : InputFault) → InputFails reads reads_now f → TablesEnds (Err (ending_of_input f)) g left rest (Rose reads reads_now) wrote still held held
    by input_fault.ReadFault h = (h, same)
    by input_fault.NoMemory h = nothing_written g left held held (Keeps-refl held)

pub script_ends : (g : List ℕ) (left rest held : Option (List ℕ)) (read wrote still : Type 0) (same : still) (front : List ℕ) (f : ScriptFault) (e : Ending) → e ≡ ending_of_script f → IfSome left (ReadsAs front) → FailsScript f (script_of front)
    → TablesEnds (Err e) g left rest read wrote still held held
script_ends g left rest held read wrote still same front f e is whole h = subst (λ (z : Ending). TablesEnds (Err z) g left rest read wrote still held held) (sym is) (by f h)
  where
    by : (f : ScriptFault) → FailsScript f (script_of front) → TablesEnds (Err (ending_of_script f)) g left rest read wrote still held held
    by (script_fault.Line number why) h = (has_bad_line left front number why whole h, same)
    by script_fault.NoMemory h = nothing_written g left held held (Keeps-refl held)

tables_past : (k : Kinds) (left old new : Option (List ℕ)) (front : List ℕ) (s : Script) (n : ℕ) → IfSome left (ReadsAs front) → script_of front ≡ IsScript s → PlayedTables (Err (play_fault.Kept n)) k s old new → Keeps old new → IfSome left (TablesPast old new)
tables_past k None old new front s n whole e p kept = tt
tables_past k (Some b) old new front s n whole e p kept = record { script = s; spelled = reads_script front b whole ∙ e; play = p.play; lines = p.lines; sum = n; past = p.ends.0; kept = kept }

-- the play ended by whatever fault
pub play_ends : (k : Kinds) → k ≡ no_kinds → (g : List ℕ) (left rest old new : Option (List ℕ)) (read wrote still : Type 0) (front : List ℕ) (s : Script) (r : Result (Unit {0}) Ending) (f : PlayFault) → IsErr r × IsErrAnd r (λ e. e ≡ ending_of_play f) → IfSome left (ReadsAs front) → script_of front ≡ IsScript s
    → (s.begun ≡ true → PlayedTables (Err f) k s old new) → (s.begun ≡ false → PlayedNothing (Err f) s old new) → (s.begun ≡ false → (n : ℕ) → f ≡ play_fault.Kept n → ⊥) → (f ≡ play_fault.WriteFault → wrote)
    → TablesEnds r g left rest read wrote still old new
play_ends k none g left rest old new read wrote still front s r f is whole spelled played nothing within rose = ended_by r (ending_of_play f) (λ q. TablesEnds q g left rest read wrote still old new) is (by f refl)
  where
    kept : Keeps old new
    kept = quiet_fault k none s old new f played nothing

    begun : (b : Bool) → s.begun ≡ b → (n : ℕ) → f ≡ play_fault.Kept n → s.begun ≡ true
    begun true e n past = e
    begun false e n past = absurd (within e n past)

    by : (h : PlayFault) → f ≡ h → TablesEnds (Err (ending_of_play h)) g left rest read wrote still old new
    by (play_fault.Kept n) e = tables_past k left old new front s n whole spelled (subst (λ (z : PlayFault). PlayedTables (Err z) k s old new) e (played (begun s.begun refl n e))) kept
    by play_fault.WriteFault e = (rose e, nothing_written g left old new kept)
    by play_fault.NoMemory e = nothing_written g left old new kept

-- no memory for the lines
pub lines_end : (k : Kinds) → k ≡ no_kinds → (g : List ℕ) (left rest old new : Option (List ℕ)) (read wrote still : Type 0) (s : Script) (w : World (List Copied)) (r : Result (Unit {0}) Ending) → IsErr r × IsErrAnd r (λ e. e ≡ ending.Stop stop.NoMemory)
    → (s.begun ≡ true → PlayedTables (Ok w) k s old new) → (s.begun ≡ false → PlayedNothing (Ok w) s old new) → TablesEnds r g left rest read wrote still old new
lines_end k none g left rest old new read wrote still s w r is played nothing =
    ended_by r (ending.Stop stop.NoMemory) (λ q. TablesEnds q g left rest read wrote still old new) is (nothing_written g left old new (appends_none old new (quiet k none s old new w played nothing)))

written_all : (g : List ℕ) (left old new : Option (List ℕ)) (front : List ℕ) (s : Script) (w : World (List Copied)) → IfSome left (ReadsAs front) → script_of front ≡ IsScript s → (MayPlay s → TablesEnd s w) → Appends old new (tables_text g w) → IfSome left (PlaysTables g old new)
written_all g None old new front s w whole e ended h = tt
written_all g (Some b) old new front s w whole e ended h = record { script = s; spelled = reads_script front b whole ∙ e; world = w; ended = ended (scripts_may_play b s (reads_script front b whole ∙ e)); written = h }

written_front : (g : List ℕ) (left old new : Option (List ℕ)) (front : List ℕ) (s : Script) (w : World (List Copied)) → IfSome left (ReadsAs front) → script_of front ≡ IsScript s → (MayPlay s → TablesEnd s w) → GrowsByFront old new (tables_text g w) → IfSome left (MayHaveTables g old new)
written_front g None old new front s w whole e ended h = tt
written_front g (Some b) old new front s w whole e ended h =
    inr (record { script = s; spelled = reads_script front b whole ∙ e; world = w; ended = ended (scripts_may_play b s (reads_script front b whole ∙ e)); written = h })

-- the lines were told, or not
pub told_ends : (k : Kinds) → k ≡ no_kinds → (g : List ℕ) (left rest old mid new : Option (List ℕ)) (faults later : ℕ) (read wrote still : Type 0) (front : List ℕ) (s : Script) (w : World (List Copied)) (text : List ℕ) (r : Result (Unit {0}) Ending) → IfSome left (ReadsAs front) → (length front ≤ input_limit → IsAtEnd rest)
    → script_of front ≡ IsScript s → (s.begun ≡ true → PlayedTables (Ok w) k s old mid) → (s.begun ≡ false → PlayedNothing (Ok w) s old mid) → text ≡ tables_text g w → (Rose faults later → wrote) → TellEnds r text faults later mid new → TablesEnds r g left rest read wrote still old new
told_ends k none g left rest old mid new faults later read wrote still front s w text r whole end spelled played nothing is rose told = by r told
  where
    before : Appends old mid []
    before = quiet k none s old mid w played nothing

    ended : MayPlay s → TablesEnd s w
    ended may = tables_ended k none s old mid w may played nothing

    by : (q : Result (Unit {0}) Ending) → TellEnds q text faults later mid new → TablesEnds q g left rest read wrote still old new
    by (Ok u) h = (written_all g left old new front s w whole spelled ended (subst (Appends old new) is (Appends-trans old mid new [] text before h)), at_end rest front s end spelled)
    by (Err ending.Usage) h = absurd h
    by (Err (ending.BadLine n why)) h = absurd h
    by (Err (ending.Stop stop.NoMemory)) h = nothing_written g left old new (Keeps-trans old mid new (appends_none old mid before) h)
    by (Err ending.ReadFault) h = absurd h
    by (Err (ending.Stop stop.WriteFault)) h =
        let part : GrowsByFront old new text = record { front = h.1.front; back = h.1.back; whole = h.1.whole; grows = Appends-trans old mid new [] h.1.front before h.1.grows } in
        (rose h.0, written_front g left old new front s w whole spelled ended (subst (GrowsByFront old new) is part))
    by (Err (ending.Stop stop.LinkFault)) h = absurd h
    by (Err ending.TooMuchKept) h = absurd h
    by (Err (ending.Stop stop.NoReply)) h = absurd h
    by (Err (ending.Stop stop.SessionLost)) h = absurd h
    by (Err (ending.Stop stop.DaemonFull)) h = absurd h
    by (Err (ending.Stop stop.Paused)) h = absurd h
