-- Each base of a group has room for its providers, so each list of it has.
use Rattle.std.proofs.Common.{◌≡◌, ℕ, ◌+◌, List, [], ◌∷◌, Option, Some, None, refl, sym, ◌∙◌, subst, ⊎_elim, arith}
use Rattle.rsct_packet.specs.declared.ids.ViewId.{ViewId}
use Rattle.proposal_core.specs.declared.entry.Entry.{Entry}
use Rattle.proposal_core.specs.declared.group_state.GroupState.{GroupState}
use Rattle.proposal_core.specs.Fold.{after}
use Rattle.run_safety.specs.Past.{fold_from}
use Rattle.run_safety.specs.Group.{Standing, Packet, Line, Origin, Reply}
use Rattle.run_safety.specs.Bases.{Bases, base_state, state_of_list, side_state, BaseIs}
use Rattle.run_safety.specs.Moves.{Leads, Opening, SetAt, Life, Dawn, NextEvent, Promises, Answers, Appends, Follows, Starts, Enters, Founds, Names, Hears, Asks, Requests, Refuses, IsTold, Acknowledges, Settles}
use Rattle.run_safety.proofs.Order.{cases_view}
use Rattle.send_laws.specs.Bound.{Room}
use Rattle.send_laws.proofs.Rooms.{room_after}

abbrev pub BasesRoom : Bases → Type 0
BasesRoom bases = (v : ViewId) (b : Origin) → bases v ≡ Some b → Room b.state

folded_room : (v : ViewId) (st : GroupState) (i : ℕ) (es : List Entry) → Room st → Room (fold_from v st i es)
folded_room v st i [] r = r
folded_room v st i (e ∷ es) r = folded_room v (after st v i e) (i + 1) es (room_after st v i e r)

pub list_room : (bases : Bases) → BasesRoom bases → (v : ViewId) (es : List Entry) → Room (state_of_list bases v es)
list_room bases h v es = folded_room v (base_state (bases v)) 0 es (by (bases v) refl)
  where
    by : (o : Option Origin) → bases v ≡ o → Room (base_state o)
    by None q = omega arith
    by (Some b) q = h v b q

-- what wins is a list of an old view
won_room : (rs : List Reply) (ss : ViewId → List Entry) (bases : Bases) (o : Option Origin) (b : Origin) → BasesRoom bases → BaseIs rs ss (λ u. side_state bases ss u) o → o ≡ Some b → Room b.state
won_room rs ss bases None b h w q = absurd cc
won_room rs ss bases (Some a) b h w q =
    let z : a ≡ b = cc in
    subst (λ (x : Origin). Room x.state) z (subst Room (sym w.state) (list_room bases h a.old (ss a.old)))

set_room : (bases bases' : Bases) (v : ViewId) (o : Option Origin) → SetAt bases bases' v o → ((b : Origin) → o ≡ Some b → Room b.state) → BasesRoom bases → BasesRoom bases'
set_room bases bases' v o set new old u b q =
    ⊎_elim (λ (e : u ≡ v). new b (sym (subst (λ z. bases' z ≡ o) (sym e) set.here) ∙ q)) (λ (ne : u ≡ v → ⊥). old u b (sym (set.there u ne) ∙ q)) (cases_view u v)

-- of every life
pub bases_room : {o : Opening} {nodes : ℕ → Standing} {ps : List Packet} {all : List Line} {leads : Leads} {bases : Bases} → Life o nodes ps all leads bases → BasesRoom bases
bases_room (Dawn nodes new) = λ v b q. absurd cc
bases_room (NextEvent nodes ps all leads bases life) = bases_room life
bases_room (Promises nodes now ps all leads bases n x v life is le c) = bases_room life
bases_room (Answers nodes ps all leads bases n x v life is up le lt) = bases_room life
bases_room (Appends nodes now ps all leads bases n x e life is up led same due tallied room c) = bases_room life
bases_room (Follows nodes now ps all leads bases n x e life is up same sent c) = bases_room life
bases_room (Starts nodes now ps all leads bases n x v ms life is quiet born how c) = bases_room life
bases_room (Enters nodes now ps all leads bases n x v ms ss life is quiet up at lt among sent c) = bases_room life
bases_room (Founds nodes now ps all leads leads' bases bases' n x rs ss b life is quiet ok base set_base set_lead c) =
    set_room bases bases' x.promise b set_base (λ d q. won_room rs ss bases b d (bases_room life) base q) (bases_room life)
bases_room (Names nodes ps all leads leads' bases v n j life was set led may) = bases_room life
bases_room (Hears nodes ps all more leads bases p v i e life put s is new) = bases_room life
bases_room (Asks nodes ps all leads bases p r x life) = bases_room life
bases_room (Requests nodes ps all leads bases p r x y life is up same asked never untold) = bases_room life
bases_room (Refuses nodes ps all leads bases v p r life why) = bases_room life
bases_room (IsTold nodes ps all leads bases p r y life is up same why) = bases_room life
bases_room (Acknowledges nodes ps all leads bases n x k life is le) = bases_room life
bases_room (Settles nodes ps all leads bases n j v ms k life was acked) = bases_room life
