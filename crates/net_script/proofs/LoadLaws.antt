-- The play of a load.
use Rattle.std.proofs.Common.{◌≡◌, ◌≢◌, ℕ, zero, suc, ◌+◌, ◌-◌, ◌<◌, ◌≤◌, ◌++◌, List, [], ◌∷◌, map, Option, Some, None, Result, Ok, Err, refl, sym, ◌∙◌, ap, subst, append-nil, arith}
use Rattle.std.specs.Prelude.{Bool, true, false, ◌==◌, nat_lt, codes, decimal, flat_map}
use Rattle.std.specs.Io.KnownBytes.{Appends, Keeps}
use Rattle.std.proofs.KnownBytes.{Appends-nil, Appends-trans}
use Rattle.hags_io.specs.Edges.{GrowsByFront}
use Rattle.hags_io.proofs.ByteLaws.{front_on}
use Rattle.rsct_packet.specs.Lists.{reverse_onto}
use Rattle.client_callbacks.specs.Handed.{Handed}
use Rattle.group_attr.specs.declared.attrs.Phases.TheVariants.{One, Many}
use Rattle.node_state.specs.declared.call.CallLine.TheVariants as call
use Rattle.node_state.specs.declared.config.Mode.TheVariants as mode
use Rattle.node_state.specs.declared.happened.Happened.{Happened}
use Rattle.world_model.specs.declared.script.Line.{Line}
use Rattle.world_model.specs.declared.script.Line.TheVariants as line
use Rattle.world_model.specs.World.{World, world_of, world_new}
use Rattle.world_model.specs.Reading.{first_settings, settled_if}
use Rattle.world_model.specs.Play.{script_records}
use Rattle.world_model.specs.Kept.{kept_past, kept_records}
use Rattle.world_model.specs.Load.{eight, mask_of, settings_of, client_name, load_group, starts, asks, calls, joins_again, comes, first_lines, load_step, load_from, load_lines, next_seed, summary_of, load_text}
use Rattle.world_laws.proofs.world_runs.Backwards.{reversed_back}
use Rattle.world_laws.specs.world_answers.Answers.{Items, AllWorded}
use Rattle.world_laws.specs.world_answers.Plays.{AnsweredPlay, starting, PlaysLine, PlaysLines}
use Rattle.load_script.specs.Steps.{step_lines, restart, partition}
use Rattle.load_script.specs.Counting.{no_counts, counted, summary_text}
use Rattle.load_script.specs.Script.{load_script}
use Rattle.load_script.specs.declared.counts.Counts.{Counts}
use Rattle.load_script.proofs.CountLaws.{counts_summary}
use Rattle.load_script.proofs.StepLaws.{load_begins, load_goes_on, load_ends}
use Rattle.transcript.specs.Kinds.{kinds_text, no_kinds}
use Rattle.transcript.proofs.KindLaws.{no_lines}
use Rattle.net_script.specs.Safe.{ScriptIsSafe, KeptRunIsSafe, LineMay, LinesMay, MayPlay}
use Rattle.run_hands.specs.Hands.{LogsStand, empty_logs}
use Rattle.net_script.specs.declared.stage.Stage.{Stage}
use Rattle.play_state.specs.declared.play_fault.PlayFault.{PlayFault}
use Rattle.play_state.specs.declared.play_fault.PlayFault.TheVariants as play_fault
use Rattle.net_script.specs.Writing.{Writes}
use Rattle.net_script.specs.Stage.{At, Went, LeadsTo}
use Rattle.net_script.specs.Ends.{records_in, PlayedAs}
use Rattle.net_script.proofs.TextLaws.{none_written}
use Rattle.net_script.proofs.SafeLaws.{plain_addresses_fit, every_play_is_safe, every_kept_play_is_safe}
use Rattle.net_script.proofs.PlayLaws.{Opened, reversed_nothing, played_done, played_stopped}
use Rattle.net_script.proofs.WordedLaws.{says_done, says_kept, says_front, records_same}

-- ---- its lines may happen

may_append : (xs ys : List Line) → LinesMay mode.Asked xs → LinesMay mode.Asked ys → LinesMay mode.Asked (xs ++ ys)
may_append [] ys a b = b
may_append (x ∷ xs) ys a b = (a.0, may_append xs ys a.1 b)

start_may : (k : ℕ) → k ≢ 0 → LineMay mode.Asked (starts k)
unfolding starts
start_may k h = (refl, h)

join_may : (k : ℕ) → LinesMay mode.Asked (joins_again k)
unfolding joins_again calls
join_may k = (tt, (tt, tt))

coming_may : (k : ℕ) → LinesMay mode.Asked (comes k)
unfolding comes calls
coming_may k = (tt, join_may k)

comings_may : (ks : List ℕ) → LinesMay mode.Asked (flat_map comes ks)
comings_may [] = tt
comings_may (k ∷ ks) = may_append (comes k) (flat_map comes ks) (coming_may k) (comings_may ks)

not_zero : (k : ℕ) → 1 + k ≢ 0
not_zero k e = absurd (omega arith)

starts_may : LinesMay mode.Asked (map starts eight)
starts_may =
    (start_may 1 (not_zero 0), (start_may 2 (not_zero 1), (start_may 3 (not_zero 2), (start_may 4 (not_zero 3), (start_may 5 (not_zero 4), (start_may 6 (not_zero 5), (start_may 7 (not_zero 6), (start_may 8 (not_zero 7), tt))))))))

first_may : LinesMay mode.Asked first_lines
unfolding first_lines asks
first_may =
    let middle : List Line = asks 1 (mask_of eight) ∷ line.Flow ∷ [] in
    let may : LinesMay mode.Asked middle = (tt, (tt, tt)) in
    may_append (map starts eight ++ middle) (flat_map comes eight) (may_append (map starts eight) middle starts_may may) (comings_may eight)

restart_may : (k : ℕ) → k ≢ 0 → LinesMay mode.Asked (restart k)
unfolding asks
restart_may k h = (tt, (tt, (tt, (start_may k h, (tt, (tt, coming_may k))))))

partition_may : (k : ℕ) → LinesMay mode.Asked (partition k)
unfolding asks
partition_may k = (tt, (tt, (tt, (tt, (tt, join_may k)))))

step_may : (i k c : ℕ) → k ≢ 0 → LinesMay mode.Asked (load_step i k c)
unfolding load_step calls
step_may i k c h = by (nat_lt c 5) (c == 5) (c == 6)
  where
    by : (x y z : Bool)
        → LinesMay mode.Asked (elim x [ true ↦ calls k (call.SendMessage (client_name k) load_group One (codes "m" ++ decimal i)) ∷ line.Flow ∷ [] | false ↦ elim y [ true ↦ calls k (call.ChangeState (client_name k) load_group Many (codes "s" ++ decimal i)) ∷ line.Flow ∷ [] | false ↦ elim z [ true ↦ restart k | false ↦ partition k ] ] ])
    by true y z = (tt, (tt, tt))
    by false true z = (tt, (tt, tt))
    by false false true = restart_may k h
    by false false false = partition_may k

from_may : (n i x : ℕ) → LinesMay mode.Asked (load_from n i x)
unfolding load_from
from_may zero i x = tt
from_may (suc n) i x = may_append _ _ (step_may i _ _ (not_zero _)) (from_may n (i + 1) (next_seed x))

pub load_may : (n : ℕ) → MayPlay (load_script n)
unfolding load_lines settings_of settled_if
load_may n = record {
  lines = may_append first_lines (load_from n 1 n) first_may (from_may n 1 n);
  addresses = plain_addresses_fit (record first_settings { mode = mode.Asked; nodes = mask_of eight }) refl;
}

pub load_is_safe : (n : ℕ) → ScriptIsSafe (load_script n)
load_is_safe n = every_play_is_safe (load_script n) (load_may n)

pub load_front_is_safe : (limit n : ℕ) → KeptRunIsSafe limit (load_script n)
load_front_is_safe limit n = every_kept_play_is_safe limit (load_script n) (load_may n)

-- ---- step by step

pub first_left : (n x : ℕ) → x ≡ n → load_lines n ≡ first_lines ++ load_from (n - 0) (0 + 1) x
first_left n x same =
    let e : n ≡ n - 0 = omega arith in
    load_begins n ∙ (ap (λ m. first_lines ++ load_from m 1 n) e ∙ ap (λ y. first_lines ++ load_from (n - 0) 1 y) (sym same))

pub step_left : (n i x : ℕ) → i < n → load_from (n - i) (i + 1) x ≡ step_lines (i + 1) (next_seed x) ++ load_from (n - (i + 1)) (i + 1 + 1) (next_seed x)
step_left n i x h = let e : n - i ≡ suc (n - (i + 1)) = omega arith in ap (λ m. load_from m (i + 1) x) e ∙ load_goes_on (n - (i + 1)) (i + 1) x

pub no_step_left : (n i j x : ℕ) → n ≤ i → load_from (n - i) j x ≡ []
no_step_left n i j x h = let e : n - i ≡ 0 = omega arith in ap (λ m. load_from m j x) e ∙ load_ends j x

-- ---- its end

-- in mode asked nothing has happened yet
new_is_still : (world_new (settings_of mode.Asked eight)).trace ≡ []
unfolding world_new world_of settings_of settled_if
new_is_still = refl

none_first : {C : Type 0} {script : C → Option Items} {said : Items → Option Items} (limit : ℕ) (s : Stage C) (rs : List Happened) → Opened script said limit s (settings_of mode.Asked eight) rs → rs ≡ []
none_first limit s rs o = reversed_nothing rs (sym new_is_still ∙ o.trace)

-- nothing was written

empty_front : (front back : List ℕ) → front ++ back ≡ [] → front ≡ []
empty_front [] back e = refl
empty_front (x ∷ xs) back e = absurd cc

empty_back : (front back : List ℕ) → front ++ back ≡ [] → back ≡ []
empty_back [] back e = e
empty_back (x ∷ xs) back e = absurd cc

-- nothing is left
nothing_left : (a b : Option (List ℕ)) (left rest : List ℕ) (rs : List Happened) → left ≡ [] → Writes a left b rest (kinds_text no_kinds rs) → Appends b b rest
nothing_left a b left rest rs e w = none_written b rest (empty_back w.front rest (w.whole ∙ (ap (λ t. t ++ kinds_text no_kinds rs) e ∙ no_lines rs)))

nothing_begun : (a : Option (List ℕ)) (left : List ℕ) (rs : List Happened) → left ≡ [] → Writes a [] a left (kinds_text no_kinds rs)
nothing_begun a left rs e = record { front = []; whole = e ∙ sym (no_lines rs); grows = Appends-nil a }

still_front : (a b : Option (List ℕ)) (rs : List Happened) → GrowsByFront a b (kinds_text no_kinds rs) → Appends a b []
still_front a b rs g = subst (Appends a b) (empty_front g.front g.back (g.whole ∙ no_lines rs)) g.grows

pub kept_still : (a b : Option (List ℕ)) → Appends a b [] → Keeps a b
kept_still None b h = tt
kept_still (Some xs) None h = h
kept_still (Some xs) (Some ys) h = h ∙ append-nil xs

pub written_then : (a b c : Option (List ℕ)) (text : List ℕ) → Appends a b [] → Appends b c text → Appends a c text
written_then a b c text h w = Appends-trans a b c [] text h w

pub front_then : (a b c : Option (List ℕ)) (text : List ℕ) → Appends a b [] → GrowsByFront b c text → GrowsByFront a c text
front_then a b c text h g = front_on a b c [] text [] text (append-nil text) h g

pub no_front : (a b : Option (List ℕ)) (text : List ℕ) → Appends a b [] → GrowsByFront a b text
no_front a b text h = record { front = []; back = text; whole = refl; grows = h }

module _ {C : Type 0} {script : C → Option Items} {said : Items → Option Items} {R : C → List Handed → Type 0} where
  -- what was counted at the end
  counted_all : {U : Type 0} {u : U} (all : AllWorded said) (a b : Option (List ℕ)) (limit : ℕ) (s t : Stage C) (n : ℕ) (rs : List Happened) → Opened script said limit s (settings_of mode.Asked eight) rs → s.counts ≡ no_counts
      → (l : LeadsTo script said R (Ok u) no_kinds a b s t (starting (settings_of mode.Asked eight)) (PlaysLines said (starting (settings_of mode.Asked eight)) (load_lines n)) (world_new (settings_of mode.Asked eight)))
      → t.counts ≡ counted no_counts (script_records (load_script n))
  counted_all {U} {u} all a b limit s t n rs o none l =
      let w : Went script said R no_kinds a b s t (starting (settings_of mode.Asked eight)) l.play (world_new (settings_of mode.Asked eight)) = l.outcome in
      let trace : l.play.world.trace ≡ reverse_onto w.records [] = sym (ap (λ (z : World). z.trace) w.moved.at.same) ∙ (w.moved.recorded ∙ ap (reverse_onto w.records) new_is_still) in
      let records : script_records (load_script n) ≡ w.records = records_same said all (load_script n) l.play refl l.made ∙ (ap (λ zs. reverse_onto zs []) trace ∙ reversed_back w.records []) in
      w.moved.counts ∙ (ap (λ (c : Counts). counted c w.records) none ∙ ap (counted no_counts) (sym records))

  load_rest : {U : Type 0} {u : U} (a b : Option (List ℕ)) (limit : ℕ) (s t : Stage C) (n : ℕ) (rs : List Happened) → Opened script said limit s (settings_of mode.Asked eight) rs → s.text.items ≡ []
      → ((p : AnsweredPlay) → (v : World) → At script said s p v → LeadsTo script said R (Ok u) no_kinds a b s t p (PlaysLines said p (load_lines n)) v) → Appends b b t.text.items
  load_rest a b limit s t n rs o text next =
      let l = next (starting (settings_of mode.Asked eight)) (world_new (settings_of mode.Asked eight)) o.at in
      let w : Went script said R no_kinds a b s t (starting (settings_of mode.Asked eight)) l.play (world_new (settings_of mode.Asked eight)) = l.outcome in
      nothing_left a b s.text.items t.text.items w.records text w.written

  pub load_done : {U : Type 0} {u : U} (all : AllWorded said) (a b : Option (List ℕ)) (limit : ℕ) (s t : Stage C) (n : ℕ) (rs : List Happened) → Opened script said limit s (settings_of mode.Asked eight) rs → s.text.items ≡ [] → LogsStand R s.world.nodes (empty_logs (world_new (settings_of mode.Asked eight))) → s.counts ≡ no_counts
      → ((p : AnsweredPlay) → (v : World) → At script said s p v → LeadsTo script said R (Ok u) no_kinds a b s t p (PlaysLines said p (load_lines n)) v)
      → (kept_past limit (load_script n) ≡ None) × (t.counts ≡ counted no_counts (script_records (load_script n)))
  load_done {U} {u} all a b limit s t n rs o text empty none next =
      let p : PlayedAs script said R (Ok t.world) no_kinds limit (load_script n) a b = played_done no_kinds a a b b limit s t (load_script n) rs o empty (nothing_begun a s.text.items rs text) next (load_rest a b limit s t n rs o text next) in
      let d = says_done all t.world no_kinds limit (load_script n) a b refl p in
      (d.0, counted_all all a b limit s t n rs o none (next (starting (settings_of mode.Asked eight)) (world_new (settings_of mode.Asked eight)) o.at))

  pub load_stopped : {U : Type 0} (e : PlayFault) (a b : Option (List ℕ)) (limit : ℕ) (s t : Stage C) (n : ℕ) (rs : List Happened) → Opened script said limit s (settings_of mode.Asked eight) rs → s.text.items ≡ []
      → ((p : AnsweredPlay) → (v : World) → At script said s p v → LeadsTo {U = U} script said R (Err e) no_kinds a b s t p (PlaysLines said p (load_lines n)) v) → PlayedAs script said R (Err e) no_kinds limit (load_script n) a b
  load_stopped e a b limit s t n rs o text next = played_stopped e no_kinds a a b limit s t (load_script n) rs o (nothing_begun a s.text.items rs text) next

  pub load_still : {U : Type 0} (r : Result U PlayFault) (all : AllWorded said) (a b : Option (List ℕ)) (limit : ℕ) (s t : Stage C) (n : ℕ) (rs : List Happened) → Opened script said limit s (settings_of mode.Asked eight) rs → s.text.items ≡ [] → LogsStand R s.world.nodes (empty_logs (world_new (settings_of mode.Asked eight)))
      → ((p : AnsweredPlay) → (v : World) → At script said s p v → LeadsTo script said R r no_kinds a b s t p (PlaysLines said p (load_lines n)) v) → Appends a b []
  load_still (Ok u) all a b limit s t n rs o text empty next =
      still_front a b _ (says_front all _ no_kinds limit (load_script n) a b refl (played_done no_kinds a a b b limit s t (load_script n) rs o empty (nothing_begun a s.text.items rs text) next (load_rest a b limit s t n rs o text next)))
  load_still (Err e) all a b limit s t n rs o text empty next = still_front a b _ (says_front all _ no_kinds limit (load_script n) a b refl (load_stopped e a b limit s t n rs o text next))

  pub load_past : {U : Type 0} (all : AllWorded said) (e : PlayFault) (k : ℕ) (a b : Option (List ℕ)) (limit : ℕ) (s t : Stage C) (n : ℕ) (rs : List Happened) → e ≡ play_fault.Kept k → Opened script said limit s (settings_of mode.Asked eight) rs → s.text.items ≡ []
      → ((p : AnsweredPlay) → (v : World) → At script said s p v → LeadsTo {U = U} script said R (Err e) no_kinds a b s t p (PlaysLines said p (load_lines n)) v) → kept_past limit (load_script n) ≡ Some k
  load_past all e k a b limit s t n rs is o text next = (says_kept all e k no_kinds limit (load_script n) a b is refl (load_stopped e a b limit s t n rs o text next)).0

-- ---- its summary

pub summary_is : (n : ℕ) (c : Counts) (text : List ℕ) → c ≡ counted no_counts (script_records (load_script n)) → text ≡ summary_text n c → text ≡ load_text n
unfolding load_text script_records
summary_is n c text e is = is ∙ (ap (summary_text n) e ∙ counts_summary n (script_records (load_script n)))
