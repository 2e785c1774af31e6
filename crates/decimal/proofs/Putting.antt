-- Bytes that are written one after another. Assumes nothing.
use Rattle.std.proofs.Common.{◌≡◌, ℕ, ◌+◌, ◌≤◌, List, [], ◌++◌, length, take, drop, sym, refl, ap, ◌∙◌, subst, append_assoc, append-nil, arith, length-append, length-drop, length-take}
use Rattle.std.proofs.lemmas.List.{drop-drop, take-append-drop}
use Rattle.decimal.specs.Put.{Put}

pub put_none : (at : ℕ) (old : List ℕ) → Put [] at old old at
put_none at old = record { value = omega arith; wrote = sym (append-nil (take at old)); kept = refl }

pub put_two : (a b : List ℕ) (at p r : ℕ) (old mid new : List ℕ) → Put a at old mid p → Put b p mid new r → Put (a ++ b) at old new r
put_two a b at p r old mid new x y = record {
  value = y.value ∙ ap (λ (z : ℕ). z + length b) x.value ∙ sum at (length a) (length b) ∙ ap (λ (z : ℕ). at + z) (sym (length-append a b));
  wrote = y.wrote ∙ ap (λ (z : List ℕ). z ++ b) x.wrote ∙ append_assoc (take at old) a b;
  kept = y.kept ∙ later;
}
  where
    sum : (x y z : ℕ) → x + y + z ≡ x + (y + z)
    sum x y z = omega arith

    far : r ≡ p + length b
    far = y.value

    later : drop r mid ≡ drop r old
    later = ap (λ (z : ℕ). drop z mid) far ∙ sym (drop-drop (length b) p mid) ∙ ap (drop (length b)) x.kept ∙ drop-drop (length b) p old ∙ ap (λ (z : ℕ). drop z old) (sym far)

pub put_as : (a b : List ℕ) (at r : ℕ) (old new : List ℕ) → a ≡ b → Put a at old new r → Put b at old new r
put_as a b at r old new e = subst (λ (z : List ℕ). Put z at old new r) e

-- bytes that stand from the first place on
pub put_first : (bytes old new : List ℕ) (r : ℕ) → Put bytes 0 old new r → new ≡ bytes ++ drop r old
put_first bytes old new r x = sym (take-append-drop r new) ∙ λ i. x.wrote i ++ x.kept i

-- what is written in place keeps the length
pub put_long : (bytes old new : List ℕ) (at r : ℕ) → at + length bytes ≤ length old → Put bytes at old new r → length new ≡ length old
put_long bytes old new at r room x =
    omega (arith, room, x.value, ap length x.wrote, ap length x.kept, length-take r new, length-take at old, length-append (take at old) bytes, length-drop r new, length-drop r old)
