-- A node that was started is in the view that it entered last.
use Rattle.std.proofs.Common.{refl, ◌≡◌, ℕ, ◌+◌, ◌<◌, sym, ◌∙◌, ap, subst, List, ◌∷◌, length, Some, None, arith}
use Rattle.std.specs.Prelude.{◌≢◌, drop}
use Rattle.std.proofs.lemmas.Bool.Decides.{nat_tests}
use Rattle.rsct_packet.specs.declared.ids.Member.{Member}
use Rattle.rsct_packet.specs.declared.ids.ViewId.{ViewId}
use Rattle.proposal_core.specs.declared.entry.Entry.{Entry}
use Rattle.run_safety.specs.Group.{Standing, members_of, Packet, Record, In, Line, kept, puts_from}
use Rattle.run_safety.specs.Bases.{Bases}
use Rattle.run_safety.specs.Moves.{Leads, Changes, Opening, grown, Life, Dawn, NextEvent, Promises, Answers, Appends, Follows, Starts, Enters, Founds, Names, Hears, Asks, Requests, Refuses, IsTold, Acknowledges, Settles}
use Rattle.run_safety.proofs.Keep.{each}
use Rattle.run_safety.proofs.Lines.{kept_entered, kept_inserted}
use Rattle.run_laws.proofs.seen_runs.LineRules.{Entered, last_in}
use Rattle.run_laws.proofs.seen_runs.LineFacts.{last_puts}

-- of one node
abbrev pub entered_by : Standing → Entered
entered_by x = record { inc = x.inc; view = x.view }

abbrev pub AtLast : List Record → ℕ → Standing → Type 0
AtLast tr m x = (0 < x.inc → last_in m tr ≡ Some (entered_by x)) × (x.inc ≡ 0 → last_in m tr ≡ None)

-- one node changed but for its view
still : (tr : List Record) (nodes now : ℕ → Standing) (n : ℕ) (x : Standing) → ((nodes n).inc ≡ x.inc) → ((nodes n).view ≡ x.view) → Changes nodes now n x → ((m : ℕ) → AtLast tr m (nodes m)) → (m : ℕ) → AtLast tr m (now m)
still tr nodes now n x inc view c old =
    each (AtLast tr) nodes now n x c ((λ up. (old n).0 (subst (λ k. 0 < k) (sym inc) up) ∙ (λ z. Some (record { inc = inc z; view = view z }))), (λ none. (old n).1 (inc ∙ none))) (λ m ne. old m)

-- a node entered a view
moved : (tr tr' : List Record) (nodes now : ℕ → Standing) (n j : ℕ) (v : ViewId) (ms : List Member) (x : Standing) → x.view ≡ v → x.inc ≡ j → 0 < j → tr' ≡ In n j v ms ∷ tr → Changes nodes now n x → ((m : ℕ) → AtLast tr m (nodes m)) → (m : ℕ) → AtLast tr' m (now m)
moved tr tr' nodes now n j v ms x view inc up is c old =
    subst (λ z. (m : ℕ) → AtLast z m (now m)) (sym is) (each (AtLast (In n j v ms ∷ tr)) nodes now n x c ((λ k. here ∙ (λ z. Some (record { inc = sym inc z; view = sym view z }))), (λ none. absurd (let z = inc in omega arith))) (λ m ne. ((λ k. there m ne ∙ (old m).0 k), (λ k. there m ne ∙ (old m).1 k))))
  where
    here : last_in n (In n j v ms ∷ tr) ≡ Some (record { inc = j; view = v })
    here = grind (arith, nat_tests)

    there : (m : ℕ) → m ≢ n → last_in m (In n j v ms ∷ tr) ≡ last_in m tr
    there m ne = grind (arith, nat_tests)

-- what is put enters no view
filled : (n : ℕ) (v : ViewId) (i : ℕ) (es : List Entry) (tr : List Record) (nodes : ℕ → Standing) → ((m : ℕ) → AtLast tr m (nodes m)) → (m : ℕ) → AtLast (puts_from n v i es tr) m (nodes m)
filled n v i es tr nodes old m = ((λ up. last_puts m n v i es tr ∙ (old m).0 up), (λ none. last_puts m n v i es tr ∙ (old m).1 none))

pub at_last : {o : Opening} {nodes : ℕ → Standing} {ps : List Packet} {all : List Line} {leads : Leads} {bases : Bases} → Life o nodes ps all leads bases → (m : ℕ) → AtLast (kept all) m (nodes m)
at_last (Dawn nodes new) = λ m. ((λ up. absurd (let z = (new m).0 in omega arith)), (λ none. refl))
at_last (NextEvent nodes ps all leads bases life) = at_last life
at_last (Promises nodes now ps all leads bases n x v life is le c) = still (kept all) nodes now n _ (ap (λ (z : Standing). z.inc) is) (ap (λ (z : Standing). z.view) is) c (at_last life)
at_last (Answers nodes ps all leads bases n x v life is up le lt) = at_last life
at_last (Appends nodes now ps all leads bases n x e life is up led same due tallied room c) = still (kept all) nodes now n (grown x e) (ap (λ (z : Standing). z.inc) is) (ap (λ (z : Standing). z.view) is) c (at_last life)
at_last (Follows nodes now ps all leads bases n x e life is up same sent c) = still (kept all) nodes now n (grown x e) (ap (λ (z : Standing). z.inc) is) (ap (λ (z : Standing). z.view) is) c (at_last life)
at_last (Starts nodes now ps all leads bases n x v ms life is quiet born how c) = moved (kept all) _ nodes now n (x.inc + 1) v ms _ refl refl (omega arith) refl c (at_last life)
at_last (Enters nodes now ps all leads bases n x v ms ss life is quiet up at lt among sent c) =
    moved _ _ nodes now n x.inc v ms _ refl refl up (kept_entered n x v ms ss (bases v) all) c (filled n x.view (length x.list) (drop (length x.list) (ss x.view)) (kept all) nodes (at_last life))
at_last (Founds nodes now ps all leads leads' bases bases' n x rs ss b life is quiet ok base set_base set_lead c) =
    moved _ _ nodes now n x.inc x.promise (members_of rs) _ refl refl ok.up (kept_entered n x x.promise (members_of rs) ss b all) c (filled n x.view (length x.list) (drop (length x.list) (ss x.view)) (kept all) nodes (at_last life))
at_last (Names nodes ps all leads leads' bases v n j life was set led may) = at_last life
at_last (Hears nodes ps all more leads bases p v i e life put s is new) = λ m. ((λ up. ap (last_in m) (kept_inserted _ all more new) ∙ (at_last life m).0 up), (λ none. ap (last_in m) (kept_inserted _ all more new) ∙ (at_last life m).1 none))
at_last (Asks nodes ps all leads bases p r x life) = at_last life
at_last (Requests nodes ps all leads bases p r x y life is up same asked never untold) = at_last life
at_last (Refuses nodes ps all leads bases v p r life why) = at_last life
at_last (IsTold nodes ps all leads bases p r y life is up same why) = at_last life
at_last (Acknowledges nodes ps all leads bases n x k life is le) = at_last life
at_last (Settles nodes ps all leads bases n j v ms k life was acked) = at_last life
