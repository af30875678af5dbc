-- The parts of the invariant, and that what holds of the past goes on holding.
use Rattle.std.proofs.Common.{refl, Some, ◌≡◌, ℕ, ◌<◌, ◌⊎◌, List, [], ◌∷◌, sym, ap, subst, inl, inr, arith}
use Rattle.std.specs.Prelude.{slice_get}
use Rattle.rsct_packet.specs.declared.ids.ViewId.{ViewId}
use Rattle.rsct_packet.specs.declared.ids.Member.{Member}
use Rattle.proposal_core.specs.declared.entry.Entry.{Entry}
use Rattle.rsct_packet.specs.Search.{Has}
use Rattle.run_safety.specs.ViewOrder.{Lt, Le}
use Rattle.run_safety.specs.Group.{member, Standing, Packet, Answer, Install, Append, Request, Refusal, Ack, Stable, Record, In, Put, Begins}
use Rattle.run_safety.specs.Moves.{Leads}
use Rattle.run_safety.proofs.Order.{lt_refl, le_trans, lt_le_trans, le_lt_trans}
use Rattle.run_safety.proofs.Prefix.{IsPrefix, prefix_trans, prefix_get}

-- what a node may come to: nothing that it promised is undone
pub record Onward (x y : Standing) : Type 0 where
  pub by : (x.inc < y.inc) ⊎ ((x.inc ≡ y.inc) × Le x.view y.view × Le x.promise y.promise × (((x.view ≡ y.view) × (Lt x.view x.promise → x.list ≡ y.list)) ⊎ Le x.promise y.view))

-- the node entered v with incarnation j
abbrev pub Entered : Standing → ℕ → ViewId → Type 0
Entered x j v = (j < x.inc) ⊎ ((j ≡ x.inc) × Le v x.view)

-- the incarnation j of the node is not yet in v
abbrev pub Unused : Standing → ℕ → ViewId → Type 0
Unused x j v = (x.inc < j) ⊎ ((x.inc ≡ j) × Lt x.view v)

-- a member that does not enter v any more, or has a front of what the sources have for it
abbrev pub Gave : Standing → ViewId → ℕ → (ViewId → List Entry) → Type 0
Gave x v j ss = (j < x.inc) ⊎ ((j ≡ x.inc) × Le v x.promise × (Lt x.view v → IsPrefix x.list (ss x.view)))

-- what a node answered for v still binds it: its incarnation ended, or it promised v or more, and until it enters v or
-- a later view it is in the view and has the list that it answered
abbrev pub Bound : Standing → ViewId → ℕ → ViewId → List Entry → Type 0
Bound x v j u xs = (j < x.inc) ⊎ ((j ≡ x.inc) × Le v x.promise × (Lt x.view v → (x.view ≡ u) × (x.list ≡ xs)))

pub onward_refl : (x : Standing) → Onward x x
onward_refl x = record { by = inr (refl, lt_refl x.view, lt_refl x.promise, inl (refl, λ _. refl)) }

pub entered_on : (x y : Standing) (j : ℕ) (v : ViewId) → Onward x y → Entered x j v → Entered y j v
entered_on x y j v o h = grind (arith, le_trans, o.by)

pub bound_on : (x y : Standing) (v : ViewId) (j : ℕ) (u : ViewId) (xs : List Entry) → Le x.view x.promise → Onward x y → Bound x v j u xs → Bound y v j u xs
bound_on x y v j u xs b o h = grind (arith, le_trans, lt_le_trans, le_lt_trans, o.by)

pub gave_on : (x y : Standing) (v : ViewId) (j : ℕ) (ss : ViewId → List Entry) → Le x.view x.promise → Onward x y → Gave x v j ss → Gave y v j ss
gave_on x y v j ss b o h = grind (arith, le_trans, lt_le_trans, le_lt_trans, o.by)

-- what grows of the logs
pub record Growing (log now : ViewId → List Entry) : Type 0 where
  pub at : (v : ViewId) → IsPrefix (log v) (now v)

pub record InstallOk (nodes : ℕ → Standing) (log : ViewId → List Entry) (v : ViewId) (ms : List Member) (ss : ViewId → List Entry) : Type 0 where
  pub gave : (m j : ℕ) → Has (member m j) ms → Gave (nodes m) v j ss
  pub sources : (u : ViewId) → IsPrefix (ss u) (log u)
  pub used : Entered (nodes v.coord) v.inc v

-- what holds of each packet in flight, whenever it comes
abbrev pub PacketOk : (ℕ → Standing) → (ViewId → List Entry) → Packet → Type 0
PacketOk nodes log (Answer v r) = Bound (nodes r.node) v r.inc r.view r.list × IsPrefix r.list (log r.view)
PacketOk nodes log (Install v ms ss) = InstallOk nodes log v ms ss
PacketOk nodes log (Append v i e) = slice_get (log v) i ≡ Some e
PacketOk nodes log (Request v p r x) = Unit {0}
PacketOk nodes log (Refusal v p r) = Unit {0}
PacketOk nodes log (Ack v n j k) = Unit {0}
PacketOk nodes log (Stable v k) = Unit {0}

-- what holds of each record
abbrev pub RecordOk : (ℕ → Standing) → (ViewId → List Entry) → Record → Type 0
RecordOk nodes log (In n j v ms) = Entered (nodes n) j v
RecordOk nodes log (Put n v i e) = slice_get (log v) i ≡ Some e
RecordOk nodes log Begins = Unit {0}

-- what holds of each node
pub record NodeOk (log : ViewId → List Entry) (lead : Leads) (n : ℕ) (x : Standing) : Type 0 where
  pub below : Le x.view x.promise
  pub part : IsPrefix x.list (log x.view)
  pub mine : (j : ℕ) → lead x.view ≡ Some (member n j) → j ≡ x.inc
  pub whole : (j : ℕ) → lead x.view ≡ Some (member n j) → x.list ≡ log x.view
  pub fresh : (v : ViewId) (j : ℕ) → lead v ≡ Some (member n j) → Unused x j v → log v ≡ []

-- a packet that holds goes on holding
pub packet_on : (nodes now : ℕ → Standing) (log log' : ViewId → List Entry) → ((m : ℕ) → Le (nodes m).view (nodes m).promise) → ((m : ℕ) → Onward (nodes m) (now m)) → Growing log log' → (p : Packet) → PacketOk nodes log p → PacketOk now log' p
packet_on nodes now log log' b o g (Answer v r) h =
    (bound_on (nodes r.node) (now r.node) v r.inc r.view r.list (b r.node) (o r.node) h.0, prefix_trans h.1 (g.at r.view))
packet_on nodes now log log' b o g (Install v ms ss) h =
    record {
      gave = λ m j i. gave_on (nodes m) (now m) v j ss (b m) (o m) (h.gave m j i);
      sources = λ u. prefix_trans (h.sources u) (g.at u);
      used = entered_on (nodes v.coord) (now v.coord) v.inc v (o v.coord) h.used;
    }
packet_on nodes now log log' b o g (Append v i e) h = prefix_get (log v) (log' v) (g.at v) i e h
packet_on nodes now log log' b o g (Request v p r x) h = tt
packet_on nodes now log log' b o g (Refusal v p r) h = tt
packet_on nodes now log log' b o g (Ack v n j k) h = tt
packet_on nodes now log log' b o g (Stable v k) h = tt

pub record_on : (nodes now : ℕ → Standing) (log log' : ViewId → List Entry) → ((m : ℕ) → Onward (nodes m) (now m)) → Growing log log' → (r : Record) → RecordOk nodes log r → RecordOk now log' r
record_on nodes now log log' o g (In n j v ms) h = entered_on (nodes n) (now n) j v (o n) h
record_on nodes now log log' o g (Put n v i e) h = prefix_get (log v) (log' v) (g.at v) i e h
record_on nodes now log log' o g Begins h = tt

-- what is new holds, and what held holds
pub added : {A : Type 0} (P : A → Type 0) (x : A) (xs : List A) → P x → ((y : A) → Has y xs → P y) → (y : A) → Has y (x ∷ xs) → P y
added P x xs new old y (inl e) = subst P (sym e) new
added P x xs new old y (inr h) = old y h

-- one member is another
pub member_parts : (m n i j : ℕ) → Some (member m i) ≡ Some (member n j) → (m ≡ n) × (i ≡ j)
member_parts m n i j e =
    let f : member m i ≡ member n j = cc in (ap (λ (k : Member). k.node) f, ap (λ (k : Member). k.inc) f)
