-- Writing one text after another.
use Prim.Native.Nat.{ℕ, ◌+◌, ◌≤◌, ◌<◌}
use mathlib.Core.Path.{◌≡◌, ◌∙◌, refl, ap, ap₂, sym}
use mathlib.Core.List.{List, [], ◌∷◌, ◌++◌, append_assoc, append-nil}
use native.Mathlib.Nat.{add_assoc, add-zero, zero-add}
use native.Mathlib.Omega.{arith}
use borrow.Rule.Slice.PartMut.{put_mid}
use lib.ListN.{length, take, drop, set, length-append, length-drop, take-append-drop}
use Rattle.std.proofs.lemmas.List.{take-set, drop-set}
use lib.Seq.{take_at, drop_at, drop-drop, length-take-le}
use Rattle.text.specs.declared.Cursor.{Cursor}
use Rattle.text.specs.Text.{written, Wrote}

-- nothing written
pub written_none : (o : List ℕ) (at : ℕ) → written o at [] ≡ o
written_none o at = rw (append-nil, add-zero) (take-append-drop at o)

module _ (o : List ℕ) (at : ℕ) (t : List ℕ) (fits : at + length t ≤ length o) where
  front : length (take at o ++ t) ≡ at + length t
  front = length-append (take at o) t ∙ ap (λ n. n + length t) (length-take-le at o (omega arith))

  pub length-written : length (written o at t) ≡ length o
  length-written =
      length-append (take at o ++ t) (drop (at + length t) o)
      ∙ omega (arith, front, length-drop (at + length t) o)

  -- a text written right after another is the two in one
  pub written_after : (s : List ℕ) → written (written o at t) (at + length t) s ≡ written o at (t ++ s)
  written_after s =
      let head : take (at + length t) (written o at t) ≡ take at o ++ t =
      take_at (take at o ++ t) (drop (at + length t) o) (at + length t) front in
      let rest : drop (at + length t) (written o at t) ≡ drop (at + length t) o =
      drop_at (take at o ++ t) (drop (at + length t) o) (at + length t) front in
      let tail : drop (at + length t + length s) (written o at t) ≡ drop (at + length (t ++ s)) o =
      sym (drop-drop (length s) (at + length t) (written o at t))
      ∙ ap (drop (length s)) rest
      ∙ drop-drop (length s) (at + length t) o
      ∙ ap (λ n. drop n o) (add_assoc at (length t) (length s) ∙ ap (λ n. at + n) (sym (length-append t s))) in
      rw (head, tail) (ap (λ l. l ++ drop (at + length (t ++ s)) o) (append_assoc (take at o) t s))

-- a part of the buffer that was filled anew
pub written_part : (o : List ℕ) (at n : ℕ) (s t : List ℕ) → s ≡ t → length t ≡ n → put_mid at n o s ≡ written o at t
written_part o at n s t e l = rw (e, ← l, drop-drop (length t) at o) (sym (append_assoc (take at o) t (drop (at + length t) o)))

-- what comes before the text, and the text with what comes after it
pub written_whole : (o n t : List ℕ) (at : ℕ) → take at n ≡ take at o → drop at n ≡ t ++ drop (at + length t) o → n ≡ written o at t
written_whole o n t at p q =
    sym (take-append-drop at n) ∙ rw (p, q) (sym (append_assoc (take at o) t (drop (at + length t) o)))

-- one byte
pub written_byte : (o : List ℕ) (at v : ℕ) → at < length o → set o at v ≡ written o at (v ∷ [])
written_byte o at v h =
    written_whole o (set o at v) (v ∷ []) at (take-set o at v) (drop-set o at v h)

-- nothing, and one text after another
pub wrote_none : (o : Cursor) → Wrote o [] o
wrote_none o = record { same = refl; buffer = sym (written_none o.out.now o.at); kept = refl; after = sym (add-zero o.at) }

pub wrote_then : {o n m : Cursor} {t s : List ℕ} → Wrote o t n → n.at ≤ length n.out.now → Wrote n s m → Wrote o (t ++ s) m
wrote_then {o} {n} {m} {t} {s} w inside v =
    record {
      same = v.same ∙ w.same;
      buffer = v.buffer ∙ rw (w.buffer, w.after) (written_after o.out.now o.at t (omega (arith, w.after, w.kept, inside)) s);
      kept = v.kept ∙ w.kept;
      after = omega (arith, v.after, w.after, length-append t s);
    }

-- a text at the start of a buffer
pub written_front : (o t : List ℕ) → written o 0 t ≡ t ++ drop (length t) o
written_front o t = ap (λ n. t ++ drop n o) (zero-add (length t))

pub front_text : (o t : List ℕ) → take (length t) (written o 0 t) ≡ t
front_text o t = ap (take (length t)) (written_front o t) ∙ take_at t (drop (length t) o) (length t) refl

pub shown_front : (o : List ℕ) {new t : List ℕ} {n : ℕ} → n ≡ length t → new ≡ written o 0 t → take n new ≡ t
shown_front o {t = t} size e = ap₂ take size e ∙ front_text o t
