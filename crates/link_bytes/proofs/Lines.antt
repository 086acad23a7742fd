-- A line goes on bit by bit, and has one reading.
use Rattle.std.proofs.Common.{IsOk, IsErr, IfOk, IfErr, OnErr, ◌↔◌, ◌≡◌, ℕ, Bool, true, false, List, [], ◌∷◌, ◌++◌, length, take, drop, refl, sym, ap, ◌∙◌, subst, arith, Option, Some, None, Result}
use Rattle.std.proofs.Common.{Ok, Err, append_assoc, append-nil, length-append, length-drop}
use Rattle.std.proofs.lemmas.List.{append_cancel_left, take-append-drop}
use Rattle.std.proofs.lemmas.Grind.{flat_map-append}
use Rattle.std.proofs.Math.Seq.{take-append_seam}
use Rattle.std.specs.Option.{option_to_list}
use Rattle.link_bytes.specs.declared.packet.Packet.{Packet}
use Rattle.link_bytes.specs.declared.packet.Packet.TheVariants.{Byte, Ack}
use Rattle.link_bytes.specs.declared.fault.LinkFault.{LinkFault}
use Rattle.link_bytes.specs.declared.fault.LinkFault.TheVariants.{Framing}
use Rattle.link_bytes.specs.Line.{data_bits, packet_bits, IsPacket, ArePackets, Sign, idle, sent, sign_bits, line_bits, sign_packets, packets_among, IsPacketFront, AreLineBits}
use Rattle.link_bytes.specs.Reading.{PacketView, begun, failed, unstopped_bits, IsBrokenLine, HasRead, IsFramingFault, packets_given}
use Rattle.link_bytes.specs.Stages.{Reads}
use Rattle.link_bytes.proofs.DataBits.{length-data_bits, data_bits-same}

-- lists of one length at the front of a list are one
same_front : (xs ys u v : List Bool) → length xs ≡ length ys → xs ++ u ≡ ys ++ v → (xs ≡ ys) × (u ≡ v)
same_front xs ys u v l e =
    let same : xs ≡ ys = sym (take-append_seam xs u) ∙ ap (take (length xs)) e ∙ ap (λ n. take n (ys ++ v)) l ∙ take-append_seam ys v in
    (same, append_cancel_left ys u v (ap (λ zs. zs ++ u) (sym same) ∙ e))

-- data packets, with whatever stop bits, that begin one list
same_data : (a b : ℕ) (s t : Bool) (x y : List Bool) → (data_bits a ++ s ∷ []) ++ x ≡ (data_bits b ++ t ∷ []) ++ y → (data_bits a ≡ data_bits b)
    × (s ∷ x ≡ t ∷ y)
same_data a b s t x y e =
    same_front (data_bits a) (data_bits b) (s ∷ x) (t ∷ y) (length-data_bits a ∙ sym (length-data_bits b))
    (sym (append_assoc (data_bits a) (s ∷ []) x) ∙ e ∙ append_assoc (data_bits b) (t ∷ []) y)

-- no sign begins another
same_sign : (s t : Sign) (x y : List Bool) → ArePackets (sign_packets s) → ArePackets (sign_packets t) → sign_bits s ++ x ≡ sign_bits t ++ y → (s ≡ t) × (x ≡ y)
same_sign idle idle x y p q e = (refl, ap (drop 1) e)
same_sign idle (sent Ack) x y p q e = absurd cc
same_sign idle (sent (Byte b)) x y p q e = absurd cc
same_sign (sent Ack) idle x y p q e = absurd cc
same_sign (sent Ack) (sent Ack) x y p q e = (refl, ap (drop 2) e)
same_sign (sent Ack) (sent (Byte b)) x y p q e = absurd cc
same_sign (sent (Byte a)) idle x y p q e = absurd cc
same_sign (sent (Byte a)) (sent Ack) x y p q e = absurd cc
same_sign (sent (Byte a)) (sent (Byte b)) x y p q e =
    let same = same_data a b false false x y (ap (drop 2) e) in
    (ap (λ n. sent (Byte n)) (data_bits-same a b p.0 q.0 same.0), ap (drop 1) same.1)

-- bits that no sign begins
abbrev NoSign : List Bool → Type 0
NoSign bits = (s : Sign) (x : List Bool) → ArePackets (sign_packets s) → bits ≡ sign_bits s ++ x → ⊥

-- a data packet without its stop bit is no sign
unstopped-no_sign : (b : ℕ) (more : List Bool) → NoSign (unstopped_bits b ++ more)
unstopped-no_sign b more idle x p e = cc
unstopped-no_sign b more (sent Ack) x p e = cc
unstopped-no_sign b more (sent (Byte c)) x p e =
    let same = same_data b c true false more x (ap (drop 2) e) in
    let last : true ∷ more ≡ false ∷ x = same.1 in
    cc

-- the packet that a rest begins
rest_packet : (rest : List Bool) (r : IsPacketFront rest) → sign_bits (sent r.packet) ++ [] ≡ rest ++ drop r.count (packet_bits r.packet)
rest_packet rest r = append-nil (packet_bits r.packet) ∙ sym (take-append-drop r.count (packet_bits r.packet))
    ∙ ap (λ bits. bits ++ drop r.count (packet_bits r.packet)) (sym r.first)

-- less than a packet is no sign
rest-no_sign : (rest : List Bool) → IsPacketFront rest → NoSign rest
rest-no_sign rest r s x p e =
    let left = drop r.count (packet_bits r.packet) in
    let same = same_sign (sent r.packet) s [] (x ++ left) (r.is_packet, tt) p (rest_packet rest r ∙ ap (λ bits. bits ++ left) e
    ∙ append_assoc (sign_bits s) x left) in
    let len : 0 ≡ length (x ++ left) = ap length same.1 in
    let less = r.less in
    omega (arith, len, length-append x left, length-drop r.count (packet_bits r.packet))

-- less than a packet doesn't begin as one without its stop bit
rest-not_unstopped : (rest : List Bool) (b : ℕ) (more : List Bool) → IsPacketFront rest → rest ≡ unstopped_bits b ++ more → ⊥
rest-not_unstopped rest b more r e =
    let left = drop r.count (packet_bits r.packet) in
    unstopped-no_sign b (more ++ left) (sent r.packet) [] (r.is_packet, tt)
    (sym (append_assoc (unstopped_bits b) more left) ∙ ap (λ bits. bits ++ left) (sym e) ∙ sym (rest_packet rest r))

-- the packets of the first sign, and of the others
first_packets : (s : Sign) (ss : List Sign) → ArePackets (packets_among (s ∷ ss)) → ArePackets (sign_packets s) × ArePackets (packets_among ss)
first_packets idle ss p = (tt, p)
first_packets (sent packet) ss p = ((p.0, tt), p.1)

ArePackets-append : (ps qs : List Packet) → ArePackets ps → ArePackets qs → ArePackets (ps ++ qs)
ArePackets-append [] qs p q = q
ArePackets-append (packet ∷ ps) qs p q = (p.0, ArePackets-append ps qs p.1 q)

-- signs are known by their bits
same_signs : (ss ts : List Sign) (x y : List Bool) → ArePackets (packets_among ss) → ArePackets (packets_among ts) → NoSign x → NoSign y → line_bits ss ++ x
    ≡ line_bits ts ++ y → (ss ≡ ts) × (x ≡ y)
same_signs [] [] x y p q n m e = (refl, e)
same_signs [] (t ∷ ts) x y p q n m e = absurd (n t (line_bits ts ++ y) (first_packets t ts q).0 (e ∙ append_assoc (sign_bits t) (line_bits ts) y))
same_signs (s ∷ ss) [] x y p q n m e = absurd (m s (line_bits ss ++ x) (first_packets s ss p).0 (sym e ∙ append_assoc (sign_bits s) (line_bits ss) x))
same_signs (s ∷ ss) (t ∷ ts) x y p q n m e =
    let a = first_packets s ss p in
    let b = first_packets t ts q in
    let first = same_sign s t (line_bits ss ++ x) (line_bits ts ++ y) a.0 b.0 (sym (append_assoc (sign_bits s) (line_bits ss) x) ∙ e
    ∙ append_assoc (sign_bits t) (line_bits ts) y) in
    let others = same_signs ss ts x y a.1 b.1 n m first.1 in
    (cc (first.0, others.0), others.1)

-- what comes after the last sign
abbrev Ends : PacketView → List Bool → Type 0
Ends (begun rest) bits = (bits ≡ rest) × IsPacketFront rest
Ends failed bits = (b : ℕ) × (more : List Bool) × (bits ≡ unstopped_bits b ++ more)

-- no sign stands there
Ends-no_sign : (reading : PacketView) (bits : List Bool) → Ends reading bits → NoSign bits
Ends-no_sign (begun rest) bits h s x p e = rest-no_sign rest h.1 s x p (sym h.0 ∙ e)
Ends-no_sign failed bits h s x p e = unstopped-no_sign h.0 h.1 s x p (sym h.2 ∙ e)

-- it tells what is known of the line
same_reading : (reading other : PacketView) (bits : List Bool) → Ends reading bits → Ends other bits → reading ≡ other
same_reading (begun rest) (begun left) bits h k = ap begun (sym h.0 ∙ k.0)
same_reading (begun rest) failed bits h k = absurd (rest-not_unstopped rest k.0 k.1 h.1 (sym h.0 ∙ k.2))
same_reading failed (begun left) bits h k = absurd (rest-not_unstopped left h.0 h.1 k.1 (sym k.0 ∙ h.2))
same_reading failed failed bits h k = refl

-- the signs of a reading, and what comes after them
record Parts (bits : List Bool) (packets : List Packet) (reading : PacketView) : Type 0 where
  signs : List Sign
  left : List Bool
  whole : bits ≡ line_bits signs ++ left
  these : packets ≡ packets_among signs
  are_packets : ArePackets (packets_among signs)
  ends : Ends reading left

-- what has been read has these parts
parts_of : (bits : List Bool) (packets : List Packet) (reading : PacketView) → HasRead bits packets reading → Parts bits packets reading
parts_of bits packets (begun rest) h = record {
  signs = h.signs;
  left = rest;
  whole = h.whole;
  these = h.these;
  are_packets =
      subst ArePackets h.these h.are_packets;
  ends = (refl, h.partial);
}
parts_of bits packets failed h = record {
  signs = h.signs;
  left = unstopped_bits h.byte ++ h.more;
  whole = h.whole;
  these = h.these;
  are_packets =
      subst ArePackets h.these h.are_packets;
  ends = (h.byte, h.more, refl);
}

-- bits have at most one reading
pub one_reading : (bits : List Bool) (packets others : List Packet) (reading other : PacketView) → HasRead bits packets reading → HasRead bits others other
    → (packets ≡ others) × (reading ≡ other)
one_reading bits packets others reading other h k =
    let a = parts_of bits packets reading h in
    let b = parts_of bits others other k in
    let same = same_signs a.signs b.signs a.left b.left a.are_packets b.are_packets (Ends-no_sign reading a.left a.ends) (Ends-no_sign other b.left b.ends)
    (sym a.whole ∙ b.whole) in
    (a.these ∙ ap packets_among same.0 ∙ sym b.these, same_reading reading other a.left a.ends (subst (Ends other) (sym same.1) b.ends))

-- less than a packet is a line with none
pub goes_on : (rest : List Bool) → IsPacketFront rest → AreLineBits rest [] rest
goes_on rest r = record { signs = []; whole = refl; these = refl; are_packets = tt; partial = r }

-- bits that are one sign
pub ends_sign : (s : Sign) (bits : List Bool) → bits ≡ sign_bits s → ArePackets (sign_packets s) → AreLineBits bits (sign_packets s) []
ends_sign s bits e p = record {
  signs = s ∷ [];
  whole = e ∙ sym (append-nil (sign_bits s)) ∙ sym (append-nil (sign_bits s ++ []));
  these =
      sym (append-nil (sign_packets s));
  are_packets = p;
  partial = record { packet = Ack; is_packet = tt; count = 0; less = omega arith; first = refl };
}

-- the answer to a bit, and what is known afterwards
abbrev pub Answers : PacketView → Bool → Result (Option Packet) LinkFault → PacketView → Type 0
Answers old bit (Ok given) new = Reads old bit given new
Answers old bit (Err fault) new = (fault ≡ Framing) × IsFramingFault old bit × (new ≡ failed)

-- an answer, from what is said of each kind
pub answers_of : (old : PacketView) (bit : Bool) (result : Result (Option Packet) LinkFault) (new : PacketView) → IfOk result (λ given. Reads old bit given new)
    → OnErr result (IsFramingFault old bit) → IfErr result (λ fault. (fault ≡ Framing) × (new ≡ failed)) → Answers old bit result new
answers_of old bit (Ok given) new reads fault framing = reads
answers_of old bit (Err f) new reads fault framing = (framing.0, fault, framing.1)

-- bits that come after a line
append-bits : (signs : List Sign) (rest bits all : List Bool) → all ≡ line_bits signs ++ rest → all ++ bits ≡ line_bits signs ++ (rest ++ bits)
append-bits signs rest bits all e = ap (λ xs. xs ++ bits) e ∙ append_assoc (line_bits signs) rest bits

-- the answer to a bit adds to the bits and to their packets
pub HasRead-more : (bits : List Bool) (packets : List Packet) (old : PacketView) (bit : Bool) (result : Result (Option Packet) LinkFault) (new : PacketView)
    → HasRead bits packets old → Answers old bit result new → HasRead (bits ++ bit ∷ []) (packets ++ packets_given result) new
HasRead-more bits packets (begun rest) bit (Ok given) (begun left) h a = record {
  signs = h.signs ++ a.signs;
  whole = append-bits h.signs rest (bit ∷ []) bits h.whole ∙ ap (λ xs. line_bits h.signs ++ xs) a.whole
      ∙ sym (append_assoc (line_bits h.signs) (line_bits a.signs) left) ∙ ap (λ xs. xs ++ left) (sym (flat_map-append sign_bits h.signs a.signs));
  these = ap (λ ps. ps ++ option_to_list given) h.these ∙ ap (λ ps. packets_among h.signs ++ ps) a.these ∙ sym (flat_map-append sign_packets h.signs a.signs);
  are_packets = ArePackets-append packets (option_to_list given) h.are_packets a.are_packets;
  partial = a.partial;
}
HasRead-more bits packets (begun rest) bit (Ok given) failed h a = absurd a
HasRead-more bits packets failed bit (Ok given) new h a = absurd a
HasRead-more bits packets (begun rest) bit (Err fault) new h a = subst (HasRead (bits ++ bit ∷ []) (packets ++ [])) (sym a.2) (record {
  signs = h.signs;
  byte = a.1.0;
  more = [];
  whole = append-bits h.signs rest (bit ∷ []) bits h.whole ∙ ap (λ xs. line_bits h.signs ++ xs) (a.1.2 ∙ sym (append-nil (unstopped_bits a.1.0)));
  these = append-nil packets ∙ h.these;
  are_packets = subst ArePackets (sym (append-nil packets)) h.are_packets;
  is_byte = a.1.1;
})
HasRead-more bits packets failed bit (Err fault) new h a = subst (HasRead (bits ++ bit ∷ []) (packets ++ [])) (sym a.2) (record {
  signs = h.signs;
  byte = h.byte;
  more = h.more ++ bit ∷ [];
  whole = append-bits h.signs (unstopped_bits h.byte ++ h.more) (bit ∷ []) bits h.whole ∙ ap (λ xs. line_bits h.signs ++ xs)
      (append_assoc (unstopped_bits h.byte) h.more (bit ∷ []));
  these = append-nil packets ∙ h.these;
  are_packets = subst ArePackets (sym (append-nil packets)) h.are_packets;
  is_byte = h.is_byte;
})

-- no line goes on from a bit in place of a stop bit
line-no_fault : (rest : List Bool) (bit : Bool) (more : List Bool) (packets : List Packet) (left : List Bool) → IsFramingFault (begun rest) bit
    → AreLineBits (rest ++ bit ∷ more) packets left → ⊥
line-no_fault rest bit more packets left b l =
    let broken : IsBrokenLine (rest ++ bit ∷ more) [] = record {
      signs = [];
      byte = b.0;
      more = more;
      whole = sym (append_assoc rest (bit ∷ []) more) ∙ ap (λ xs. xs ++ more) b.2;
      these = refl;
      are_packets = tt;
      is_byte = b.1;
    } in
    let same = (one_reading (rest ++ bit ∷ more) packets [] (begun left) failed l broken).1 in
    cc

-- such a bit, and no other, is a fault
pub fault_is : (old : PacketView) (bit : Bool) (result : Result (Option Packet) LinkFault) (new : PacketView) → Answers old bit result new
    → IsErr result ↔ IsFramingFault old bit
fault_is (begun rest) bit (Ok given) (begun left) a = (λ e. cc, λ b. absurd (line-no_fault rest bit [] (option_to_list given) left b a))
fault_is (begun rest) bit (Ok given) failed a = absurd a
fault_is failed bit (Ok given) new a = absurd a
fault_is old bit (Err fault) new a = (λ _. a.1, λ _. refl)

-- an answer is told by the packets that it gives, if it is no fault
given_is : (given : Option Packet) (left : List Bool) (old : PacketView) (bit : Bool) (result : Result (Option Packet) LinkFault) (new : PacketView)
    → Answers old bit result new → packets_given result ≡ option_to_list given → new ≡ begun left → result ≡ Ok given
given_is None left old bit (Ok None) new a p n = refl
given_is None left old bit (Ok (Some packet)) new a p n = absurd cc
given_is (Some q) left old bit (Ok None) new a p n = absurd cc
given_is (Some q) left old bit (Ok (Some packet)) new a p n = cc
given_is given left old bit (Err fault) new a p n = let e = a.2 in absurd cc

-- the answer to a bit is the one way in which the bits are a line
pub answer_is : (rest : List Bool) (bit : Bool) (result : Result (Option Packet) LinkFault) (new : PacketView) (left : List Bool) (given : Option Packet)
    → IsPacketFront rest → Answers (begun rest) bit result new → AreLineBits (rest ++ bit ∷ []) (option_to_list given) left ↔
    ((result ≡ Ok given) × (new ≡ begun left))
answer_is rest bit result new left given r a = (
  λ l.
      let same = one_reading (rest ++ bit ∷ []) (packets_given result) (option_to_list given) new (begun left)
      (HasRead-more rest [] (begun rest) bit result new (goes_on rest r) a) l in
      (given_is given left (begun rest) bit result new a same.0 same.1, same.1),
  λ is. subst (λ (n : PacketView). Answers (begun rest) bit (Ok given) n) is.1 (subst (λ (q : Result (Option Packet) LinkFault). Answers (begun rest) bit q new)
      is.0 a),
)

-- bits with which a line goes on are taken
pub taken : (rest : List Bool) (bit : Bool) (more left : List Bool) (signs : List Sign) (result : Result (Option Packet) LinkFault) (new : PacketView)
    → Answers (begun rest) bit result new → ArePackets (packets_among signs) → IsPacketFront left → rest ++ bit ∷ more ≡ line_bits signs ++ left → IsOk result
taken rest bit more left signs (Ok given) new a p r e = refl
taken rest bit more left signs (Err fault) new a p r e =
    absurd (line-no_fault rest bit more (packets_among signs) left a.1 (record { signs = signs; whole = e; these = refl; are_packets = p; partial = r }))

-- a packet is a line
pub whole_packet : (packet : Packet) → IsPacket packet → HasRead (packet_bits packet) (packet ∷ []) (begun [])
whole_packet packet p = ends_sign (sent packet) (packet_bits packet) refl (p, tt)
