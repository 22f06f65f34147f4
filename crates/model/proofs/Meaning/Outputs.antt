-- Outputs over one algebra and over another: a homomorphism of algebras takes outputs to outputs, and every output over
-- the image comes from one over the source. Trees, trees with leaves that carry states, and states are such algebras.
use mathlib.Core.Path.{◌≡◌, refl, ap, ap₂, sym, ◌∙◌}
use mathlib.Core.List.{List, [], ◌∷◌, map}
use Prim.Native.Nat.{ℕ, ◌<◌}
use native.Mathlib.Omega.{arith}
use lib.ListN.{length, get_or, length-map, get_or-map}
use Rattle.model.specs.Trees.{Tree}
use Rattle.model.specs.Tables.{Transformation}
use Rattle.model.specs.Expressions.{Expression, Arguments}
use Rattle.model.specs.Outputs.{Algebra, Gives, by_rule, Makes, of_parameter, of_nothing, of_symbol, of_call, MakesAll, of_none, of_argument}

-- a map of carriers that takes leaf to leaf and join to join
pub record Homomorphism (A B : Algebra) : Type 0 where
  pub image : A.Carrier → B.Carrier
  pub leaf : image A.leaf ≡ B.leaf
  pub join : (s : ℕ) (x y : A.Carrier) → image (A.join s x y) ≡ B.join s (image x) (image y)

-- a parameter's image is the image's parameter
image_parameter : {A B : Algebra} (h : Homomorphism A B) (ws : List A.Carrier) (i : ℕ)
    → h.image (get_or ws i A.leaf) ≡ get_or (map h.image ws) i B.leaf
image_parameter {A} h ws i = rw (← h.leaf) (sym (get_or-map h.image ws i A.leaf))

module _ (M : Transformation) (A B : Algebra) (h : Homomorphism A B) where
  mutual
    -- the image of an output is an output of the images of the parameters: each step over the source is one over the image
    pub output_image : {p : ℕ} {t : Tree} {ws : List A.Carrier} {u : A.Carrier} → Gives M A p t ws u → Gives M B p t (map h.image ws) (h.image u)
    output_image (by_rule r l procedure symbol m) = by_rule r l procedure symbol (made_image m)

    made_image : {e : Expression} {t : Tree} {ws : List A.Carrier} {u : A.Carrier} → Makes M A e t ws u → Makes M B e t (map h.image ws) (h.image u)
    made_image {ws = ws} (of_parameter {i = i} l e) =
        let l' : i < length (map h.image ws) = rw length-map l in
        of_parameter l' (ap h.image e ∙ image_parameter h ws i)
    made_image (of_nothing e) = of_nothing (ap h.image e ∙ h.leaf)
    made_image (of_symbol {s = s} {x = x} {y = y} a b e) = of_symbol (made_image a) (made_image b) (ap h.image e ∙ h.join s x y)
    made_image (of_call c all g) = of_call c (all_image all) (output_image g)

    all_image : {es : Arguments} {t : Tree} {ws vs : List A.Carrier} → MakesAll M A es t ws vs → MakesAll M B es t (map h.image ws) (map h.image vs)
    all_image (of_none e) = of_none (ap (map h.image) e)
    all_image (of_argument m all e) = of_argument (made_image m) (all_image all) (ap (map h.image) e)

  mutual
    -- the choices that made an output over the image are choices over the source
    given_source : {p : ℕ} {t : Tree} {vs : List B.Carrier} {v : B.Carrier} → Gives M B p t vs v
        → (ws : List A.Carrier) → vs ≡ map h.image ws
        → (u : A.Carrier) × Gives M A p t ws u × (h.image u ≡ v)
    given_source (by_rule r l procedure symbol m) ws k =
        let (u, m', e) = made_source m ws k in (u, by_rule r l procedure symbol m', e)

    made_source : {e : Expression} {t : Tree} {vs : List B.Carrier} {v : B.Carrier} → Makes M B e t vs v
        → (ws : List A.Carrier) → vs ≡ map h.image ws
        → (u : A.Carrier) × Makes M A e t ws u × (h.image u ≡ v)
    made_source {vs = vs} (of_parameter {i = i} l e) ws k =
        let l' : i < length ws = omega (arith, l, ap length k, length-map ws h.image) in
        (get_or ws i A.leaf, of_parameter l' refl, image_parameter h ws i ∙ ap (λ (xs : List B.Carrier). get_or xs i B.leaf) (sym k) ∙ sym e)
    made_source (of_nothing e) ws k = (A.leaf, of_nothing refl, h.leaf ∙ sym e)
    made_source (of_symbol {s = s} a b e) ws k =
        let (x, a', ex) = made_source a ws k in
        let (y, b', ey) = made_source b ws k in
        (A.join s x y, of_symbol a' b' refl, h.join s x y ∙ ap₂ (B.join s) ex ey ∙ sym e)
    made_source (of_call c all g) ws k =
        let (xs, all', ex) = all_source all ws k in
        let (u, g', e) = given_source g xs (sym ex) in
        (u, of_call c all' g', e)

    all_source : {es : Arguments} {t : Tree} {vs ys : List B.Carrier} → MakesAll M B es t vs ys
        → (ws : List A.Carrier) → vs ≡ map h.image ws
        → (xs : List A.Carrier) × MakesAll M A es t ws xs × (map h.image xs ≡ ys)
    all_source (of_none e) ws k = ([], of_none refl, sym e)
    all_source (of_argument m all e) ws k =
        let (x, m', ex) = made_source m ws k in
        let (xs, all', exs) = all_source all ws k in
        (x ∷ xs, of_argument m' all' refl, ap₂ ◌∷◌ ex exs ∙ sym e)

  -- every output of images is the image of an output
  pub output_source : {p : ℕ} {t : Tree} {v : B.Carrier} (ws : List A.Carrier) → Gives M B p t (map h.image ws) v
      → (u : A.Carrier) × Gives M A p t ws u × (h.image u ≡ v)
  output_source ws g = given_source g ws refl
