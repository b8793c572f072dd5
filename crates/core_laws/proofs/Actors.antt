-- What setting the actor of a name does to the actors.
use Rattle.std.proofs.Common.{◌≡◌, ◌≢◌, Bool, true, false, List, [], ◌∷◌, sym, refl, ap, ◌∙◌}
use Rattle.std.specs.Prelude.{if◌then◌else◌}
use Rattle.graph_model.specs.declared.graph.Base.{Base}
use Rattle.core_states.specs.Names.{Name, same_name}
use Rattle.core_states.specs.Parts.{NamedActor, actor_of, with_named}
use Rattle.core_states.proofs.Names.{same_name_is, same_name_true, not_same}

pub actor_here : (base : Base) (x : NamedActor) (actors : List NamedActor) (n : Name) → n ≡ x.name → actor_of base (with_named x actors) n ≡ x.actor
actor_here base x [] n e = rw (same_name_true n x.name e) refl
actor_here base x (y ∷ actors) n e = by_name (same_name x.name y.name) refl (actor_here base x actors n e)
  where
    by_name : (b : Bool) → same_name x.name y.name ≡ b → actor_of base (with_named x actors) n ≡ x.actor → actor_of base (if b then x ∷ actors else y ∷ with_named x actors) n ≡ x.actor
    by_name true is ih = rw (same_name_true n x.name e) refl
    by_name false is ih = rw (ap (λ z. same_name z y.name) e ∙ is) ih

pub actor_there : (base : Base) (x : NamedActor) (actors : List NamedActor) (n : Name) → n ≢ x.name → actor_of base (with_named x actors) n ≡ actor_of base actors n
actor_there base x [] n ne = rw (not_same n x.name ne) refl
actor_there base x (y ∷ actors) n ne = by_name (same_name x.name y.name) refl (actor_there base x actors n ne)
  where
    by_name : (b : Bool) → same_name x.name y.name ≡ b → actor_of base (with_named x actors) n ≡ actor_of base actors n → actor_of base (if b then x ∷ actors else y ∷ with_named x actors) n ≡ actor_of base (y ∷ actors) n
    by_name true is ih = rw (not_same n x.name ne) (rw (not_same n y.name (λ e. ne (e ∙ sym (same_name_is x.name y.name is)))) refl)
    by_name false is ih = λ i. if same_name n y.name then y.actor else ih i
