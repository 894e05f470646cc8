-- The laws of put, which writes a list into another from a place on.
use Rattle.std.proofs.Common.{◌≡◌, ℕ, ◌+◌, ◌<◌, ◌≤◌, List, [], ◌∷◌, ◌++◌, map, length, get_or, take, drop, set, sym, refl, ap, ◌∙◌, append_assoc, add-zero, add_assoc, add-one, arith, length-append, length-drop, take-append-drop, length-take-le}
use lib.ListN.{length-map}
use Rattle.std.proofs.lemmas.List.{take_at, drop_at, set_split, drop-drop, take_more, map_push}
use Rattle.passive.specs.Layout.{put}

module _ {X : Type 0} where
  pub put_nil : (xs : List X) (i : ℕ) → put xs i [] ≡ xs
  put_nil xs i = ap (λ n. take i xs ++ drop n xs) (add-zero i) ∙ take-append-drop i xs

  pub length_put : (xs : List X) (i : ℕ) (ys : List X) → i + length ys ≤ length xs → length (put xs i ys) ≡ length xs
  length_put xs i ys h =
      length-append (take i xs) _
      ∙ ap (λ n. length (take i xs) + n) (length-append ys _)
      ∙ omega (arith, length-take-le i xs (omega arith), length-drop (i + length ys) xs)

  -- up to the end of what was written, and from there on
  pub take_put : (xs : List X) (i : ℕ) (ys : List X) → i ≤ length xs → take (i + length ys) (put xs i ys) ≡ take i xs ++ ys
  take_put xs i ys h =
      ap (take (i + length ys)) (sym (append_assoc (take i xs) ys _))
      ∙ take_at (take i xs ++ ys) _ (i + length ys) (length-append (take i xs) ys ∙ ap (λ n. n + length ys) (length-take-le i xs h))

  pub drop_put : (xs : List X) (i : ℕ) (ys : List X) → i ≤ length xs → drop (i + length ys) (put xs i ys) ≡ drop (i + length ys) xs
  drop_put xs i ys h =
      ap (drop (i + length ys)) (sym (append_assoc (take i xs) ys _))
      ∙ drop_at (take i xs ++ ys) _ (i + length ys) (length-append (take i xs) ys ∙ ap (λ n. n + length ys) (length-take-le i xs h))

  drop_put_more : (xs : List X) (i : ℕ) (ys : List X) (n : ℕ) → i ≤ length xs → drop (i + length ys + n) (put xs i ys) ≡ drop (i + length ys + n) xs
  drop_put_more xs i ys n h =
      sym (drop-drop n (i + length ys) (put xs i ys)) ∙ ap (drop n) (drop_put xs i ys h) ∙ drop-drop n (i + length ys) xs

  -- one write behind another
  pub put_put : (xs : List X) (i : ℕ) (ys zs : List X) → i ≤ length xs → put (put xs i ys) (i + length ys) zs ≡ put xs i (ys ++ zs)
  put_put xs i ys zs h =
      ap (λ l. l ++ (zs ++ drop (i + length ys + length zs) (put xs i ys))) (take_put xs i ys h)
      ∙ ap (λ l. (take i xs ++ ys) ++ (zs ++ l)) (drop_put_more xs i ys (length zs) h)
      ∙ append_assoc (take i xs) ys _
      ∙ ap (λ l. take i xs ++ l) (sym (append_assoc ys zs _)
      ∙ ap (λ n. (ys ++ zs) ++ drop n xs) (add_assoc i (length ys) (length zs) ∙ ap (λ n. i + n) (sym (length-append ys zs))))

  -- one write behind another, with the tables and the place known by equations
  pub then_put : (E F G : List X) (i p : ℕ) (ys zs : List X) → i ≤ length E → F ≡ put E i ys → p ≡ i + length ys → G ≡ put F p zs
      → G ≡ put E i (ys ++ zs)
  then_put E F G i p ys zs h e n g =
      g ∙ ap (λ x. put F x zs) n ∙ ap (λ x. put x (i + length ys) zs) e ∙ put_put E i ys zs h

  pub set_put : (xs : List X) (i : ℕ) (y : X) → i < length xs → set xs i y ≡ put xs i (y ∷ [])
  set_put xs i y h = set_split xs i y h ∙ ap (λ n. take i xs ++ (y ∷ drop n xs)) (sym (add-one i))

  -- one element written behind what was written
  pub put_more : (xs : List X) (i : ℕ) (ys : List X) (j : ℕ) (y : X) → j ≡ i + length ys → j < length xs
      → set (put xs i ys) j y ≡ put xs i (ys ++ y ∷ [])
  put_more xs i ys j y e h =
      ap (λ n. set (put xs i ys) n y) e
      ∙ set_put (put xs i ys) (i + length ys) y (omega (arith, length_put xs i ys (omega arith)))
      ∙ put_put xs i ys (y ∷ []) (omega arith)

-- a loop that writes f of one element after another
module _ {A B : Type 0} (f : A → B) (E : List B) (at i : ℕ) (ts : List A) (d : A) (h : i < length ts) (g : at + i < length E) where
  put_step : set (put E at (map f (take i ts))) (at + i) (f (get_or ts i d)) ≡ put E at (map f (take (i + 1) ts))
  put_step =
      put_more E at (map f (take i ts)) (at + i) (f (get_or ts i d))
      (ap (λ n. at + n) (sym (length-map (take i ts) f ∙ length-take-le i ts (omega arith)))) g
      ∙ ap (put E at) (sym (ap (map f) (take_more ts i d h) ∙ map_push f (take i ts) (get_or ts i d)))

  pub put_turn :
      (out : List B) (y : B) → out ≡ put E at (map f (take i ts)) → y ≡ f (get_or ts i d) → set out (at + i) y ≡ put E at (map f (take (i + 1) ts))
  put_turn out y e n = ap (λ l. set l (at + i) y) e ∙ (ap (λ z. set (put E at (map f (take i ts))) (at + i) z) n ∙ put_step)

pub map_three : {A B C D : Type 0} (f : C → D) (g : B → C) (h : A → B) (xs : List A) → map (λ x. f (g (h x))) xs ≡ map f (map g (map h xs))
map_three f g h [] = refl
map_three f g h (x ∷ xs) = ap (λ l. f (g (h x)) ∷ l) (map_three f g h xs)
