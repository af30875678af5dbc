-- What was done from before the link was opened on.
use Rattle.std.proofs.Common.{◌≡◌, ℕ, ◌+◌, ◌≤◌, Bool, true, false, List, [], ◌∷◌, ◌++◌, append_assoc, subst, arith}
use Rattle.hags_io.specs.Deeds.{Deed, Opened}
use Rattle.hags_io.specs.Edges.{Rose}
use Rattle.hags_io.specs.Telling.{Telling, Did, link_failures, Rises}
use Rattle.hags_io.proofs.DeedLaws.{did_on}
use Rattle.node_state.specs.declared.config.Config.{Config}
use Rattle.daemon_model.specs.Settings.{placings, openings, OverLink, OverLinkIf, NotOpened, Ran}

-- something was done, the first of it this
first_of : (P : Type 0) (t v : Telling) (xs : List Deed) (d : Deed) (ds : List Deed) → Did t v (xs ++ d ∷ ds) → ((e : Deed) (es : List Deed) → Did t v (e ∷ es) → P) → P
first_of P t v [] d ds h k = k d ds h
first_of P t v (x ∷ xs) d ds h k = k x (xs ++ d ∷ ds) h

pub rose_after : {P : Type 0} (xs : List Deed) (d : Deed) (ds : List Deed) (t u v : Telling) → Did t u (xs ++ d ∷ []) → Did u v ds → ((e : Deed) (es : List Deed) → Did t v (e ∷ es) → P) → P
rose_after {P = P} xs d ds t u v h n k = first_of P t v xs d ds (subst (Did t v) (append_assoc xs (d ∷ []) ds) (did_on t u v (xs ++ d ∷ []) ds h n)) k

last_failed : (xs : List Deed) (port : ℕ) → 1 ≤ link_failures (xs ++ Opened port false ∷ [])
last_failed [] port = omega arith
last_failed (x ∷ xs) port = let h : 1 ≤ link_failures (xs ++ Opened port false ∷ []) = last_failed xs port in omega arith

pub rose_by_opening : (xs : List Deed) (port : ℕ) (t u : Telling) → Did t u (xs ++ Opened port false ∷ []) → Rose t.link_faults u.link_faults
rose_by_opening xs port t u h =
    let some : 1 ≤ link_failures (xs ++ Opened port false ∷ []) = last_failed xs port in
    let rises : Rises t.link_faults u.link_faults (link_failures (xs ++ Opened port false ∷ [])) = h.link_faults in
    omega arith

-- ---- over the link

pub over_link : (c : Config) (port : ℕ) (done : Bool) (t u : Telling) (P : Telling → Type 0) → done ≡ true → Did t u (openings c port done) → P u → OverLink c port t P
over_link c port done t u P is h p = record { opened = u; did = subst (λ (b : Bool). Did t u (openings c port b)) is h; holds = p }

pub not_opened : (c : Config) (port : ℕ) (done : Bool) (t u : Telling) (P : Telling → Type 0) → done ≡ false → Did t u (openings c port done) → OverLinkIf c port t u P
not_opened c port done t u P is h = NotOpened (subst (λ (b : Bool). Did t u (openings c port b)) is h)

pub ran : (c : Config) (port : ℕ) (done : Bool) (t u v : Telling) (P : Telling → Type 0) → done ≡ true → Did t u (openings c port done) → P u → OverLinkIf c port t v P
ran c port done t u v P is h p = Ran (over_link c port done t u P is h p)

pub rose_closed : (c : Config) (port : ℕ) (done : Bool) (t u : Telling) → done ≡ false → Did t u (openings c port done) → Rose t.link_faults u.link_faults
rose_closed c port done t u is h = rose_by_opening (placings c) port t u (subst (λ (b : Bool). Did t u (openings c port b)) is h)
