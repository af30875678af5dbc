-- The name after the last one is the next of the names.
use Rattle.std.proofs.Common.{◌≡◌, List, [], ◌∷◌, ◌++◌, ap, sym, ◌∙◌, arith, Some, None}
use Rattle.std.specs.Prelude.{option_copied, slice_get}
use Rattle.std.proofs.lemmas.Option.{slice_get_within}
use Rattle.view_state.specs.declared.install.Base.{Base}
use Rattle.view_state.specs.Bases.{names_in, bases_for}
use Rattle.view_bases.proofs.NameLaws.{next_is, before_more}
use Rattle.node_views.proofs.BaseLaws.{bases_more, bases_end}
use Rattle.node_views.proofs.bases.bases_in.Goals as goal

pub returns-in_default : goal.returns-in_default
returns-in_default c =
    let none : None ≡ slice_get (names_in c.args.install.now.sources) c.loop-k.k =
    c.in_default.ensures ∙ next_is c.args.install.now.sources (option_copied c.loop-k.last) c.loop-k.k c.loop-k.invariant.name c.loop-k.invariant.within in
    c.loop-k.invariant.bases ∙ bases_end c.args.install.now c.loop-k.k none

pub loop-k-preserved : goal.loop-k-preserved
loop-k-preserved c =
    let is : Some c.in-Some.group.now ≡ slice_get (names_in c.args.install.now.sources) c.loop-k.k =
    c.in-Some.ensures ∙ next_is c.args.install.now.sources (option_copied c.loop-k.last) c.loop-k.k c.loop-k.invariant.name c.loop-k.invariant.within in
    record {
      bases = c.in_ok-push_base.ensures
          ∙ (ap (λ (xs : List Base). xs ++ bases_for c.args.install.now (c.in-Some.group.now ∷ [])) c.loop-k.invariant.bases
          ∙ sym (bases_more c.args.install.now c.loop-k.k c.in-Some.group.now is));
      name = is ∙ sym (before_more (names_in c.args.install.now.sources) c.loop-k.k);
      within = omega (arith, slice_get_within (names_in c.args.install.now.sources) c.loop-k.k c.in-Some.group.now (sym is));
    }
