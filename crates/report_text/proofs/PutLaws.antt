-- Laws of what is put at the end of a text.
-- Assumes nothing.
use Rattle.std.proofs.Common.{◌≡◌, ℕ, ◌+◌, ◌-◌, ◌<◌, List, [], ◌∷◌, ◌++◌, length, take, drop}
use Rattle.std.proofs.Common.{refl, ap, ap₂, sym, subst, ◌∙◌, append_assoc, append-nil, set, arith}
use Rattle.std.proofs.Common.{length-append, length-set, length-take}
use Rattle.std.proofs.Math.Seq.{take-append-add, drop-append-add, take-append_seam, drop-append_seam, drop-drop, take_all}
use Rattle.std.proofs.lemmas.List.{length-take-le, length-drop, take-append-drop, drop_all, drop-set-lt, take_more_set}
use Rattle.std.proofs.lemmas.Slice.{take-put_mid, drop-put_mid}
use borrow.Rule.Slice.PartMut.{put_mid, same_len_mid}
use Rattle.report_text.specs.Puts.{text_in, InList, Fits, Puts}
use Rattle.report_text.specs.Starts.{StartsWith}
use Rattle.report_text.specs.declared.Text.{Text}

-- bytes written over the start of the room are put
pub puts_start : (bytes room : List ℕ) (size : ℕ) (t t' : Text) → Fits bytes t
    → StartsWith bytes (drop t.len t.list.now) room size
    → t'.list.now ≡ take t.len t.list.now ++ room → t'.len ≡ t.len + size
    → t'.list.ghost_name ≡ t.list.ghost_name → Puts bytes t t'
puts_start bytes room size t t' fits starts is end same =
    let list = t.list.now in
    let before = length-take-le t.len list (omega arith) in
    let long = starts.long in
    let whole : t'.list.now ≡ take t.len list ++ (bytes ++ drop (length bytes) (drop t.len list)) =
    is ∙ ap (λ r. take t.len list ++ r) starts.bytes in
    let place : t'.len ≡ length (take t.len list) + length bytes = omega arith in
    record {
      text = ap₂ take place whole
          ∙ take-append-add (take t.len list) (bytes ++ drop (length bytes) (drop t.len list)) (length bytes)
          ∙ ap (λ b. take t.len list ++ b) (take-append_seam bytes (drop (length bytes) (drop t.len list)));
      end = omega arith;
      rest = ap₂ drop place whole
          ∙ drop-append-add (take t.len list) (bytes ++ drop (length bytes) (drop t.len list)) (length bytes)
          ∙ drop-append_seam bytes (drop (length bytes) (drop t.len list))
          ∙ drop-drop (length bytes) t.len list
          ∙ ap (λ k. drop k list) (let e : t.len + length bytes ≡ t'.len = omega arith in e);
      size =
          let a = length-append (take t.len list) (bytes ++ drop (length bytes) (drop t.len list)) in
          let b = length-append bytes (drop (length bytes) (drop t.len list)) in
          let c = length-drop (length bytes) (drop t.len list) in
          let d = length-drop t.len list in
          let e = ap length whole in
          omega arith;
      same = same;
    }

-- nothing
pub puts_none : (t : Text) → Puts [] t t
puts_none t =
    record { text = sym (append-nil (text_in t)); end = omega arith; rest = refl; size = refl; same = refl }

-- one text after the other
pub puts_then : {xs ys : List ℕ} {t u v : Text} → Puts xs t u → Puts ys u v → Puts (xs ++ ys) t v
puts_then {xs} {ys} {t} {u} {v} f g =
    let long = length-append xs ys in
    let a = f.end in
    let b = g.end in
    record {
      text = g.text ∙ ap (λ l. l ++ ys) f.text ∙ append_assoc (text_in t) xs ys;
      end = omega arith;
      rest = g.rest
          ∙ ap (λ k. drop k u.list.now) g.end ∙ sym (drop-drop (length ys) u.len u.list.now)
          ∙ ap (drop (length ys)) f.rest
          ∙ drop-drop (length ys) u.len t.list.now ∙ ap (λ k. drop k t.list.now) (sym g.end);
      size = g.size ∙ f.size;
      same = g.same ∙ f.same;
    }

-- a text is in its list when it is begun or taken away, and stays so as bytes are put
pub none_in_list : (t : Text) → t.len ≡ 0 → InList t
none_in_list t none = omega arith

pub puts_in_list : {bytes : List ℕ} {t t' : Text} → Puts bytes t t' → InList t → InList t'
puts_in_list {bytes} {t} {t'} f inside =
    let long = ap length f.text ∙ length-append (text_in t) bytes in
    let before = length-take-le t.len t.list.now inside in
    let after = length-take t'.len t'.list.now in
    let end = f.end in
    omega arith

-- the whole list: the text, what is put, and the list as it was
pub puts_list : {bytes : List ℕ} {t t' : Text} → Puts bytes t t'
    → t'.list.now ≡ (text_in t ++ bytes) ++ drop (t.len + length bytes) t.list.now
puts_list {bytes} {t} {t'} f =
    sym (take-append-drop t'.len t'.list.now)
    ∙ ap₂ (λ a b. a ++ b) f.text (f.rest ∙ ap (λ k. drop k t.list.now) f.end)

-- put at the start of the list: the list starts with it, and is as before after it
pub puts_starts : {bytes : List ℕ} {t t' : Text} → t.len ≡ 0 → Puts bytes t t'
    → StartsWith bytes t.list.now t'.list.now t'.len
puts_starts {bytes} {t} {t'} none f =
    let end = f.end in
    record {
      bytes = puts_list f
          ∙ ap₂ (λ k m. (take k t.list.now ++ bytes) ++ drop m t.list.now) none
          (let e : t.len + length bytes ≡ length bytes = omega arith in e);
      long = omega arith;
    }

-- what is written from the text's end to the end of the list starts with the bytes
pub puts_room : (bytes room : List ℕ) (size k : ℕ) (t t' : Text) → Fits bytes t
    → k ≡ length t.list.now - t.len → StartsWith bytes (take k (drop t.len t.list.now)) room size
    → t'.list.now ≡ put_mid t.len k t.list.now room → t'.len ≡ t.len + size
    → t'.list.ghost_name ≡ t.list.ghost_name → Puts bytes t t'
puts_room bytes room size k t t' fits all starts is end same =
    let long = length-drop t.len t.list.now in
    puts_start bytes room size t t' fits
    (subst (λ before. StartsWith bytes before room size) (take_all k (drop t.len t.list.now) (omega arith)) starts)
    (is ∙ ap (λ r. take t.len t.list.now ++ (room ++ r)) (drop_all k (drop t.len t.list.now) (omega arith))
    ∙ ap (λ r. take t.len t.list.now ++ r) (append-nil room))
    end same

-- what is written in their place after the text is the bytes
pub puts_part : (bytes part : List ℕ) (k : ℕ) (t t' : Text) → Fits bytes t → k ≡ length bytes → part ≡ bytes
    → t'.list.now ≡ put_mid t.len k t.list.now part → t'.len ≡ t.len + length bytes
    → t'.list.ghost_name ≡ t.list.ghost_name → Puts bytes t t'
puts_part bytes part k t t' fits all eq is end same =
    let long = ap length eq in
    let list = t.list.now in
    record {
      text = ap₂ take end is ∙ take-put_mid t.len k list part (t.len + length bytes) (omega arith) (omega arith)
          ∙ ap (λ b. take t.len list ++ b) eq;
      end = end;
      rest = ap (drop t'.len) is ∙ drop-put_mid t.len k list part t'.len (omega arith) (omega arith) (omega arith);
      size = ap length is ∙ same_len_mid t.len k list part
          (let a = length-take-le k (drop t.len list) (let b = length-drop t.len list in omega arith) in omega arith);
      same = same;
    }

-- a byte stored at the text's end
pub puts_byte : (byte : ℕ) (t t' : Text) → t.len < length t.list.now → t'.list.now ≡ set t.list.now t.len byte
    → t'.len ≡ t.len + 1 → t'.list.ghost_name ≡ t.list.ghost_name → Puts (byte ∷ []) t t'
puts_byte byte t t' fits is end same =
    let list = t.list.now in
    record {
      text = ap₂ take end is ∙ take_more_set list t.len byte fits;
      end = end;
      rest = ap (drop t'.len) is ∙ drop-set-lt t'.len list t.len byte (omega arith);
      size = ap length is ∙ length-set list t.len byte;
      same = same;
    }
