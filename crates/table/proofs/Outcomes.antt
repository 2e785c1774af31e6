-- What follows from a table's outcomes. Assumes nothing.
use Rattle.std.proofs.Common.{◌≡◌, ℕ, ◌≤◌, ◌⊎◌, List, [], ◌∷◌, length, Ok, Err, Result, sym, refl, ap, ◌∙◌, subst, inl, inr, arith}
use Rattle.diagram.specs.declared.Node.{Node}
use Rattle.diagram.specs.Nodes.{At, WellFormed, Extends}
use Rattle.diagram.proofs.Tables.{meaning_at, newest_node}
use Rattle.diagram.proofs.Growth.{fit_kept}
use Rattle.diagram.proofs.Canon.{canonical}
use Rattle.table.specs.declared.faults.TableFault.{TableFault}
use Rattle.table.specs.Model.{Sound, Found, Entered, Unfit, NoRoom, Inserting, Inserted}
use Rattle.table.specs.Decided.{GetDecided, InsertAgain, InsertDecided}

-- A node has one handle.
pub at_unique : (ns : List Node) (n : Node) (h k : ℕ) → WellFormed ns → At ns h n → At ns k n → h ≡ k
at_unique ns n h k w a b = canonical ns w h k a.issued b.issued (meaning_at ns h n w a ∙ sym (meaning_at ns k n w b))

-- Refused: the nodes are as before.
pub refused_kept : (N : ℕ) (ns : List Node) (n : Node) (e : TableFault) (new : List Node) → Inserted N ns n (Err e) new → new ≡ ns
refused_kept N ns n e new p = elim p.outcome [ inl x ↦ x.kept | inr x ↦ x.kept ]

-- Granted: the old nodes are below, the handle is the node's, and the table stays well formed.
pub granted_extends : (N : ℕ) (ns : List Node) (n : Node) (h : ℕ) (new : List Node) → Inserted N ns n (Ok h) new → Extends ns new
granted_extends N ns n h new p = elim p.outcome.1 [ inl x ↦ ([], x.kept) | inr x ↦ (n ∷ [], x.added) ]

pub granted_at : (N : ℕ) (ns : List Node) (n : Node) (h : ℕ) (new : List Node) → Inserted N ns n (Ok h) new → At new h n
granted_at N ns n h new p =
    elim p.outcome.1 [
      | inl x ↦ subst (λ ms. At ms h n) (sym x.kept) x.at
      | inr x ↦
          let top : At (n ∷ ns) h n = record { issued = omega (arith, x.handle); two = omega (arith, x.handle); is = newest_node n ns h x.handle } in
          subst (λ ms. At ms h n) (sym x.added) top
    ]

pub granted_formed : (N : ℕ) (ns : List Node) (n : Node) (h : ℕ) (new : List Node) → WellFormed ns → Inserted N ns n (Ok h) new → WellFormed new
granted_formed N ns n h new w p =
    elim p.outcome.1 [
      | inl x ↦ subst WellFormed (sym x.kept) w
      | inr x ↦ subst WellFormed (sym x.added) (p.outcome.0, x.absent, w)
    ]

pub granted_sound : (N : ℕ) (ns : List Node) (n : Node) (h : ℕ) (new : List Node) → Sound N ns → Inserted N ns n (Ok h) new → Sound N new
granted_sound N ns n h new s p =
    let room : length new ≤ N = elim p.outcome.1 [
      | inl x ↦ omega (arith, ap length x.kept, s.room)
      | inr x ↦ omega (arith, ap length x.added, x.room)
    ] in
    record { small = s.small; room = room; formed = granted_formed N ns n h new s.formed p }

-- Any outcome extends the nodes, and keeps a table sound.
pub inserted_extends : (N : ℕ) (ns : List Node) (n : Node) (r : Result ℕ TableFault) (new : List Node) → Inserted N ns n r new → Extends ns new
inserted_extends N ns n (Ok h) new p = granted_extends N ns n h new p
inserted_extends N ns n (Err e) new p = ([], refused_kept N ns n e new p)

pub inserted_sound : (N : ℕ) (ns : List Node) (n : Node) (r : Result ℕ TableFault) (new : List Node) → Sound N ns → Inserted N ns n r new → Sound N new
inserted_sound N ns n (Ok h) new s p = granted_sound N ns n h new s p
inserted_sound N ns n (Err e) new s p = subst (Sound N) (sym (refused_kept N ns n e new p)) s

-- Outcomes are decided.
module _ (N : ℕ) (ns : List Node) (n : Node) (w : WellFormed ns) where
  granted_decided : (h k : ℕ) (a b : List Node) → Found ns n h a ⊎ Entered N ns n h a → Found ns n k b ⊎ Entered N ns n k b → (h ≡ k) × (a ≡ b)
  granted_decided h k a b (inl x) (inl y) = (at_unique ns n h k w x.at y.at, x.kept ∙ sym y.kept)
  granted_decided h k a b (inl x) (inr y) = absurd (y.absent h x.at)
  granted_decided h k a b (inr x) (inl y) = absurd (x.absent k y.at)
  granted_decided h k a b (inr x) (inr y) = (x.handle ∙ sym y.handle, x.added ∙ sym y.added)

  refused_decided : (e f : TableFault) (a b : List Node) → Unfit N ns n e a ⊎ NoRoom N ns n e a → Unfit N ns n f b ⊎ NoRoom N ns n f b → (e ≡ f) × (a ≡ b)
  refused_decided e f a b (inl x) (inl y) = (x.is ∙ sym y.is, x.kept ∙ sym y.kept)
  refused_decided e f a b (inl x) (inr y) = absurd (x.unfit y.fit)
  refused_decided e f a b (inr x) (inl y) = absurd (y.unfit x.fit)
  refused_decided e f a b (inr x) (inr y) = (x.is ∙ sym y.is, x.kept ∙ sym y.kept)

  not_both : (h : ℕ) (e : TableFault) (a b : List Node) → Inserting N ns n (Ok h) a → Unfit N ns n e b ⊎ NoRoom N ns n e b → ⊥
  not_both h e a b x (inl y) = y.unfit x.0
  not_both h e a b x (inr y) = elim x.1 [ inl z ↦ y.absent h z.at | inr z ↦ omega (arith, z.room, y.full) ]

pub insert_decided : InsertDecided
insert_decided N ns n (Ok h) (Ok k) a b w p q = let d = granted_decided N ns n w h k a b p.outcome.1 q.outcome.1 in (ap Ok d.0, d.1)
insert_decided N ns n (Ok h) (Err f) a b w p q = absurd (not_both N ns n w h f a b p.outcome q.outcome)
insert_decided N ns n (Err e) (Ok k) a b w p q = absurd (not_both N ns n w k e b a q.outcome p.outcome)
insert_decided N ns n (Err e) (Err f) a b w p q = let d = refused_decided N ns n w e f a b p.outcome q.outcome in (ap Err d.0, d.1)

pub get_decided : GetDecided
get_decided N ns h (Ok m) (Ok n) p q = ap Ok (sym p.outcome.is ∙ q.outcome.is)
get_decided N ns h (Ok m) (Err f) p q = absurd (q.outcome.0 p.outcome.two p.outcome.issued)
get_decided N ns h (Err e) (Ok n) p q = absurd (p.outcome.0 q.outcome.two q.outcome.issued)
get_decided N ns h (Err e) (Err f) p q = ap Err (p.outcome.1 ∙ sym q.outcome.1)

pub insert_again : InsertAgain
insert_again N ns n h r a b w p q =
    let f = fit_kept (granted_extends N ns n h a p) n p.outcome.0 in
    let found : Inserted N a n (Ok h) a = record { outcome = (f, inl (record { at = granted_at N ns n h a p; kept = refl })) } in
    insert_decided N a n r (Ok h) b a (granted_formed N ns n h a w p) q found
