-- Laws of a function done so many times: a proof that goes by these keeps `iter` shut.
use Rattle.std.proofs.Common.{◌≡◌, ℕ, zero, suc, ◌+◌, sym, refl, ap, ◌∙◌, add_comm, suc-add, zero-add}
use Rattle.word.specs.Iter.{iter}

module _ {A : Type 0} (f : A → A) where
  pub iter_zero : (x : A) → iter zero f x ≡ x
  unfolding iter
  iter_zero x = refl

  pub iter_suc : (n : ℕ) (x : A) → iter (suc n) f x ≡ f (iter n f x)
  unfolding iter
  iter_suc n x = refl

  pub iter_one : (x : A) → iter 1 f x ≡ f x
  unfolding iter
  iter_one x = refl

  -- the last `m` of `m + n` are done after the first `n`
  pub iter_add : (m n : ℕ) (x : A) → iter (m + n) f x ≡ iter m f (iter n f x)
  unfolding iter
  iter_add zero n x = rw zero-add
  iter_add (suc m) n x = rw suc-add (ap f (iter_add m n x))

  -- `k` in two parts: first `n`, then `m`
  pub iter_split : (k m n : ℕ) → k ≡ m + n → (x : A) → iter k f x ≡ iter m f (iter n f x)
  iter_split k m n h x = rw h (iter_add m n x)

  -- what `f` leaves, it leaves
  pub iter_fixed : (x : A) → f x ≡ x → (n : ℕ) → iter n f x ≡ x
  unfolding iter
  iter_fixed x h zero = refl
  iter_fixed x h (suc n) = ap f (iter_fixed x h n) ∙ h

  -- `g` may go before or after
  pub iter_past : (g : A → A) → ((x : A) → f (g x) ≡ g (f x)) → (n : ℕ) (x : A) → iter n f (g x) ≡ g (iter n f x)
  unfolding iter
  iter_past g h zero x = refl
  iter_past g h (suc n) x = ap f (iter_past g h n x) ∙ h (iter n f x)

-- what `f` keeps, it keeps
pub iter_keeps : {A : Type 0} (f : A → A) (P : A → Type 0) → ((x : A) → P x → P (f x)) → (n : ℕ) (x : A) → P x → P (iter n f x)
unfolding iter
iter_keeps f P h zero x p = p
iter_keeps f P h (suc n) x p = h (iter n f x) (iter_keeps f P h n x p)

-- two that may be done in either order
module _ {A : Type 0} (f g : A → A) (swap : (x : A) → f (g x) ≡ g (f x)) where
  pub iter_swap : (m n : ℕ) (x : A) → iter m f (iter n g x) ≡ iter n g (iter m f x)
  iter_swap m n x = iter_past f (iter n g) (λ (y : A). sym (iter_past g f (λ (z : A). sym (swap z)) n y)) m x

  -- some of each, and then some more of each
  pub iter_both : (a b c d : ℕ) (x : A) → iter b g (iter a f (iter d g (iter c f x))) ≡ iter (d + b) g (iter (c + a) f x)
  iter_both a b c d x =
      ap (iter b g) (iter_swap a d (iter c f x))
      ∙ sym (iter_split g (d + b) b d (add_comm d b) (iter a f (iter c f x)))
      ∙ ap (iter (d + b) g) (sym (iter_split f (c + a) a c (add_comm c a) x))

-- what is alike stays alike
pub iter_alike : {A : Type 0} (f : A → A) (R : A → A → Type 0) → ((x y : A) → R x y → R (f x) (f y)) → (n : ℕ) (x y : A) → R x y → R (iter n f x) (iter n f y)
unfolding iter
iter_alike f R h zero x y p = p
iter_alike f R h (suc n) x y p = h (iter n f x) (iter n f y) (iter_alike f R h n x y p)
