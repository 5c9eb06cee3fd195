use Rattle.std.proofs.Common.{◌≡◌, ◌+◌, length, drop, rules, ap, ◌∙◌, sym, subst}
use Rattle.wire.specs.Checksum.{ones_sum_of}
use Rattle.wire.specs.PlainIpv4.{IsPlainIpv4, type_of_service, total_length}
use Rattle.ipip.specs.Encapsulation.{outer_header, ethernet_header, with_headers, encapsulated_frame}
use Rattle.ipip.proofs.HeaderLemmas.{outer_header-total, outer_header-time_to_live}
use Rattle.ipip.proofs.FrontLemmas.{HasParts, encapsulated-parts, parts-plain}
use Rattle.ipip.proofs.encapsulation.encapsulate.Goals as goal

outer_is : (c : goal.After-put_headers) → c.outer_header-header.result ≡ outer_header (type_of_service c.args.frame.now.bytes) (total_length c.args.frame.now.bytes + 20) c.args.tunnel
outer_is c =
    let old = c.args.frame.now.bytes in
    let service : c.in-Some.packet.type_of_service ≡ type_of_service old = rw c.bytes.ensures.bytes at c.in-Some.ensures.type_of_service in
    let total : c.in-Some.packet.total_length ≡ total_length old = rw c.bytes.ensures.bytes at c.in-Some.ensures.total_length in
    rw (← service, ← total) c.outer_header-header.ensures.header

encapsulated_is : (c : goal.After-put_headers) → c.put_headers.new.frame ≡ encapsulated_frame c.args.tunnel c.args.frame.now
encapsulated_is c =
    rw (c.put_headers.ensures, c.ethernet_header.ensures)
    (ap (λ outer. with_headers (ethernet_header c.args.tunnel) outer c.args.frame.now) (outer_is c))

parts : (c : goal.After-put_headers) → HasParts (outer_header (type_of_service c.args.frame.now.bytes) (total_length c.args.frame.now.bytes + 20) c.args.tunnel) (drop 14 c.args.frame.now.bytes) c.put_headers.new.frame.bytes
parts c =
    let tunnel = c.args.tunnel in
    let six : length tunnel.destination_mac.0 ≡ 6 = search rules in
    let six' : length tunnel.source_mac.0 ≡ 6 = search rules in
    let four : length tunnel.source.0 ≡ 4 = search rules in
    let four' : length tunnel.target.0 ≡ 4 = search rules in
    encapsulated-parts tunnel c.args.frame.now c.put_headers.new.frame six six' four four' (encapsulated_is c)

pub returns-clause-encapsulated : goal.returns-clause-encapsulated
returns-clause-encapsulated c = encapsulated_is c

pub returns-clause-header_verifies : goal.returns-clause-header_verifies
returns-clause-header_verifies c = ap ones_sum_of ((parts c).outer_part ∙ sym (outer_is c) ∙ c.outer_header-header.ensures.header) ∙ c.outer_header-header.ensures.verifies

pub returns-clause-inner_unchanged : goal.returns-clause-inner_unchanged
returns-clause-inner_unchanged c = (parts c).rest_part

pub returns-clause-plain_again : goal.returns-clause-plain_again
returns-clause-plain_again c =
    let old = c.args.frame.now.bytes in
    let plain : IsPlainIpv4 old = subst IsPlainIpv4 c.bytes.ensures.bytes (c.in-Some.ensures.plain.0 (search rules)) in
    parts-plain (type_of_service old) c.args.tunnel old c.put_headers.new.frame.bytes plain (parts c)

pub returns-clause-alive_again : goal.returns-clause-alive_again
returns-clause-alive_again c = (parts c).time_to_live ∙ outer_header-time_to_live _ _ c.args.tunnel

pub returns-clause-longer : goal.returns-clause-longer
returns-clause-longer c = (parts c).total ∙ outer_header-total (type_of_service c.args.frame.now.bytes) _ c.args.tunnel
